-- Pages of a listing, each from the key that the one before names.
use Rattle.std.proofs.Common.{◌≡◌, ℕ, ◌≤◌, ◌<◌, List, [], ◌∷◌, ◌++◌, Option, Some, None, Bool, true, false, cond, length, take, drop, refl, sym, ◌∙◌, ap}
use Rattle.std.proofs.Common.{subst, arith, append_assoc, nat_lt}
use Rattle.std.specs.Option.{option_map}
use Rattle.std.specs.Ordering.{ordering_reverse}
use Rattle.std.proofs.lemmas.Bool.{ltb-false, ltb-true}
use Rattle.std.proofs.lemmas.Cmp.{tied_itself}
use Rattle.std.proofs.lemmas.List.{take_all, take-append-drop, length-drop, length-take-le}
use Rattle.std.specs.declared.cmp.Ordering.TheVariants.{Less, Greater}
use Rattle.ics_file.specs.File.{FileSaid}
use Rattle.ics_listing.specs.After.{after_key}
use Rattle.ics_starts.specs.Clocks.{display_clock}
use Rattle.ics_listing.specs.Entry.{Entry, entry_cmp, key_rank, rank_cmp, rank_of}
use Rattle.ics_listing.specs.Inner.EntryLaws.{entry_total}
use Rattle.ics_series.specs.OnDays.{DayListingBehind}
use Rattle.ics_listing.specs.DayKeys.{after_day_key, day_rank_of, OnDay}
use Rattle.ics_listing.specs.Rising.{IsBefore, Rises}
use Rattle.khal_list.specs.declared.request.Request.{Request}
use Rattle.khal_list.specs.Headline.{IsDayListingOf, IsListingOf}
use Rattle.khal_list.specs.Listed.{asked_after, first_of, is_cut, key_by, last_by}
use Rattle.khal_list.specs.Pages.{joined, total, ArePositive, DayPages, Pages}

-- of what comes after an entry all has a greater key
keeps-later : (o : Entry) (ys : List Entry) → IsBefore entry_cmp o ys → after_key (Some (rank_of o)) ys ≡ ys
keeps-later o [] h = refl
keeps-later o (y ∷ ys) h = rw h.0 (ap (λ l. y ∷ l) (keeps-later o ys h.1))

before-later : (x o : Entry) (xs ys : List Entry) → IsBefore entry_cmp x (xs ++ o ∷ ys) → entry_cmp x o ≡ Less
before-later x o [] ys h = h.0
before-later x o (z ∷ zs) ys h = before-later x o zs ys h.1

-- of a rising list what stands behind an entry
behind-entry : (xs : List Entry) (o : Entry) (ys : List Entry) → Rises entry_cmp (xs ++ o ∷ ys) → after_key (Some (rank_of o)) (xs ++ o ∷ ys) ≡ ys
behind-entry [] o ys h = rw (tied_itself entry_total o) (keeps-later o ys h.0)
behind-entry (x ∷ xs) o ys h =
    let later : rank_cmp (rank_of o) (rank_of x) ≡ Greater = entry_total.antisymm o x ∙ ap ordering_reverse (before-later x o xs ys h.0) in
    rw later (behind-entry xs o ys h.1)

pub goes-on : {files : List FileSaid} (request : Request) (front : List Entry) (o : Entry) (behind : List Entry) →
    IsListingOf files request (front ++ o ∷ behind)
    → option_map key_rank request.after ≡ Some (rank_of o) → asked_after request (front ++ o ∷ behind) ≡ behind
goes-on request front o behind h e = ap (λ key. after_key key (front ++ o ∷ behind)) e ∙ behind-entry front o behind h.rises

-- What is shown of each entry is made of its key, and so is what is shown of the last of them.
module _ {A K : Type 0} (rank : A → K) (spell : K → List ℕ) (shows : A → List ℕ) (is : (x : A) → shows x ≡ spell (rank x)) where
  last-shows : (list : List A) → option_map spell (last_by rank list) ≡ last_by shows list
  last-shows [] = refl
  last-shows (x ∷ []) = ap Some (sym (is x))
  last-shows (x ∷ y ∷ more) = last-shows (y ∷ more)

  pub key-shows : (limit : Option ℕ) (list : List A) → option_map spell (key_by rank limit list) ≡ key_by shows limit list
  key-shows limit list = chosen (is_cut limit list)
    where
      chosen : (cut : Bool) → option_map spell (cond cut (last_by rank (first_of limit list)) None) ≡ cond cut (last_by shows (first_of limit list)) None
      chosen true = last-shows (first_of limit list)
      chosen false = refl

-- a page that is cut and what the others list together, or a page that is all
joined-by : {A : Type 0} (b : Bool) (limit : ℕ) (rest more : List A) → nat_lt limit (length rest) ≡ b → (b ≡ true → more ≡ drop limit rest) →
    cond b (take limit rest ++ more) (take limit rest) ≡ rest
joined-by true limit rest more p f = ap (λ l. take limit rest ++ l) (f refl) ∙ take-append-drop limit rest
joined-by false limit rest more p f = take_all limit rest (ltb-false limit (length rest) p)

-- of a list in which exactly what follows an entry comes after its key
module _ {A K : Type 0} (rank : A → K) (after : Option K → List A → List A) (list : List A)
    (behind-is : (front : List A) (x : A) (behind : List A) → list ≡ front ++ x ∷ behind → after (Some (rank x)) list ≡ behind) where
  -- what stands behind the last of some entries
  behind-last : (xs ps ys : List A) → list ≡ xs ++ (ps ++ ys) → 1 ≤ length ps → after (last_by rank ps) list ≡ ys
  behind-last xs [] ys e l = absurd (omega arith)
  behind-last xs (p ∷ []) ys e l = behind-is xs p ys e
  behind-last xs (p ∷ q ∷ ps) ys e l = behind-last (xs ++ p ∷ []) (q ∷ ps) ys (e ∙ sym (append_assoc xs (p ∷ []) ((q ∷ ps) ++ ys))) (omega arith)

  -- a place in the list whose rest stands behind a key
  abbrev StandsAt : Option K → List A → Type 0
  StandsAt key rest = (xs : List A) × (list ≡ xs ++ rest) × (after key list ≡ rest)

  -- the pages from a place on
  joined-from : (limits : List ℕ) (key : Option K) (rest : List A) → StandsAt key rest → ArePositive limits → length rest ≤ total limits →
      joined rank after limits key list ≡ rest
  joined-from [] key [] at_place p l = refl
  joined-from [] key (y ∷ ys) at_place p l = absurd (omega arith)
  joined-from (limit ∷ limits) key rest (xs, e, b) p l =
      rw b (joined-by _ limit rest (joined rank after limits (key_by rank (Some limit) rest) list) refl (λ cut.
      let more : limit < length rest = ltb-true limit (length rest) cut in
      let some : 1 ≤ length (take limit rest) = omega (arith, length-take-le limit rest (omega arith), p.0) in
      let parts : list ≡ xs ++ (take limit rest ++ drop limit rest) = e ∙ ap (λ l. xs ++ l) (sym (take-append-drop limit rest)) in
      let place : StandsAt (last_by rank (take limit rest)) (drop limit rest) =
      (xs ++ take limit rest, parts ∙ sym (append_assoc xs (take limit rest) (drop limit rest)), behind-last xs _ _ parts some) in
      ap (λ b. joined rank after limits (cond b (last_by rank (take limit rest)) None) list) cut
      ∙ joined-from limits _ (drop limit rest) place p.1 (omega (arith, l, length-drop limit rest))))

pub pages-join : Pages
pages-join files request list limits h p l =
    joined-from rank_of after_key list
    (λ front x behind e. ap (after_key (Some (rank_of x))) e ∙ behind-entry front x behind (subst (Rises entry_cmp) e h.rises))
    limits None list ([], refl, refl) p l

-- all of a list comes after no key
all-after : (list : List OnDay) → after_day_key None list ≡ list
all-after [] = refl
all-after (p ∷ ps) = ap (λ l. p ∷ l) (all-after ps)

pub day-pages-join : DayListingBehind → DayPages
day-pages-join behind-is files request list limits h p l =
    joined-from day_rank_of after_day_key list
    (λ front x behind e.
    let whole = subst (IsDayListingOf files request) e h in
    ap (after_day_key (Some (day_rank_of x))) e ∙ behind-is files (display_clock request.zone) request.window front x behind whole)
    limits None list ([], refl, all-after list) p l
