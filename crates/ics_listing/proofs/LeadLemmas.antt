-- What the merge of the leads' lists begins with, from the lead that goes first.
use Rattle.std.proofs.Common.{◌≡◌, ℕ, zero, suc, ◌+◌, ◌<◌, true, false, ⊎_elim, List, [], ◌∷◌, ◌++◌, length, get_or, set, take, drop, map, sum_by, Option}
use Rattle.std.proofs.Common.{ℤ, ◌≤ℤ◌, int_cmp, Some, None, refl, sym, ◌∙◌, ap, subst, arith, option_map, is_gt, nat_cmp, Ordering, Less, Equal, Greater}
use Rattle.std.specs.Ordering.{ordering_then}
use Rattle.std.proofs.lemmas.Bool.{cases_lt}
use Rattle.std.proofs.lemmas.Bool.Decides.{nat_tests}
use Rattle.std.proofs.lemmas.Int.{ints}
use Rattle.std.proofs.lemmas.List.{get_or-map, get_or-set_other, get_or_past, length-map, map-set}
use Rattle.std.proofs.lemmas.List.Sums.{sum_by-set}
use Rattle.std.proofs.Math.Seq.{map-set_same, take-append_seam}
use Rattle.std.proofs.lemmas.Simd.{map-map}
use Rattle.ics_listing.specs.Entry.{Entry, entry_cmp, entry_of}
use Rattle.ics_listing.specs.Inner.EntryLaws.{entry_total}
use Rattle.ics_listing.specs.Leads.{listed, past, to_draw, ComeAfter, AreFrom, IsAhead, IsEmpty, IsFresh, AreNear, HasNear}
use Rattle.ics_listing.specs.Merged.{cut, merged, union}
use Rattle.ics_listing.specs.Inner.MergedLaws.{before-tied, before-trans}
use Rattle.ics_listing.proofs.Cases.{eq-Equal, some-same, up-to-front}
use Rattle.ics_listing.proofs.BeginsLemmas.{all_front, begins-at, cut-before, front-at, front-cases, not-after-front, uncut, AllFront, AllRise, before-union}
use Rattle.ics_listing.proofs.BeginsLemmas.{before-all, in-cut, member-cut}
use Rattle.ics_listing.specs.Rising.{IsBefore, Rises}
use Rattle.ics_listing.specs.Inner.Tournament.{above, first_place, head_cmp, held_by, lead_cmp, must_draw, node_count, turn_cmp, turn_of, AreSettled}
use Rattle.ics_listing.specs.Inner.Tournament.{AreSettledBut, Turn}
use Rattle.ics_listing.proofs.TournamentLemmas.{goes-first-of, settled_but}
use Rattle.ics_listing.specs.declared.occurrence.Occurrence.{Occurrence}
use Rattle.std.specs.List.{flat_map, AllByRecursion}
use Rattle.std.proofs.lemmas.List.Elements.{All-from_recursion, All-push, All-set, recursion_from_All}
use Rattle.ics_listing.specs.Listing.{IsIn}
use Rattle.ics_listing.proofs.ListingLemmas.{before-in, all-as}

-- what stands at the front of a list
abbrev front : List Entry → Option Entry
front [] = None
front (e ∷ es) = Some e

front-first : (e : Entry) (list : List Entry) → front list ≡ Some e → (es : List Entry) × (list ≡ e ∷ es)
front-first e [] h = absurd cc
front-first e (f ∷ fs) h = (fs, cc)

-- the turn of a lead that holds an entry
abbrev pub holds : Entry → Turn
holds e = record { start = e.start; entry = Some e }

twice : (c d : Ordering) → ordering_then c (ordering_then c d) ≡ ordering_then c d
twice Less d = refl
twice Equal d = refl
twice Greater d = refl

pub holds-cmp : (a b : Entry) → turn_cmp (holds a) (holds b) ≡ entry_cmp a b
holds-cmp a b = twice (int_cmp a.start b.start) _

held-cmp : (e f g : Entry) (start : ℤ) → start ≡ f.start → Some g ≡ Some f → turn_cmp (holds e) (record { start = start; entry = Some f }) ≡ entry_cmp e g
held-cmp e f g start s h =
    (λ i. turn_cmp (holds e) (record { start = s i; entry = Some f })) ∙ (holds-cmp e f ∙ ap (entry_cmp e) (some-same f g (sym h)))

-- a list is as a turn says: what is held stands at its front, or nothing in it starts before an instant, or it is empty
abbrev IsHeldAs : ℤ → Option Entry → List Entry → Type 0
IsHeldAs start None list = AreFrom start list
IsHeldAs start (Some e) list = (start ≡ e.start) × (front list ≡ Some e)

abbrev IsAs : Option Turn → List Entry → Type 0
IsAs None list = IsEmpty list
IsAs (Some t) list = IsHeldAs t.start t.entry list

turn-as : (unread : Option ℤ) (head : Option Occurrence) (rest : List Entry) → IsAhead unread head rest → IsAs (turn_of unread head) (listed head rest)
turn-as (Some from) None rest a = a
turn-as (Some from) (Some o) rest a = absurd a
turn-as None None rest a = a
turn-as None (Some o) rest a = (refl, refl)

-- what starts before an instant comes before a list from there on
sooner : (c : Ordering) → is_gt (ordering_then c Greater) ≡ false → c ≡ Less
sooner Less h = refl
sooner Equal h = cc
sooner Greater h = cc

start-less : (e o : Entry) (from : ℤ) → int_cmp e.start from ≡ Less → from ≤ℤ o.start → entry_cmp e o ≡ Less
start-less e o from l m =
    let less : int_cmp e.start o.start ≡ Less = grind (arith, ints) in rw less refl

before-from : (e : Entry) (from : ℤ) (list : List Entry) → AreFrom from list → int_cmp e.start from ≡ Less → IsBefore entry_cmp e list
before-from e from list h l = before-all entry_cmp e list (λ o m. start-less e o from l (h o m))

-- e comes before a rising list, if it comes before the turn, and before all but an entry of its key, if it is not after that
before-held : (e : Entry) (start : ℤ) (entry : Option Entry) (list : List Entry) → IsHeldAs start entry list → Rises entry_cmp list →
    turn_cmp (holds e) (record { start = start; entry = entry }) ≡ Less → IsBefore entry_cmp e list
before-held e start None list h r l = before-from e start list h (sooner (int_cmp e.start start) (ap is_gt l))
before-held e start (Some f) [] h r l = tt
before-held e start (Some f) (g ∷ gs) h r l =
    let less = sym (held-cmp e f g start h.0 h.1) ∙ l in (less, before-trans entry_cmp entry_total e g gs less r.0)

before-list : (e : Entry) (t : Option Turn) (list : List Entry) → IsAs t list → Rises entry_cmp list → head_cmp (Some (holds e)) t ≡ Less →
    IsBefore entry_cmp e list
before-list e None [] h r l = tt
before-list e None (f ∷ fs) h r l = absurd h
before-list e (Some t) list h r l = before-held e t.start t.entry list h r l

behind-held : (e : Entry) (start : ℤ) (entry : Option Entry) (list : List Entry) → IsHeldAs start entry list → Rises entry_cmp list →
    is_gt (turn_cmp (holds e) (record { start = start; entry = entry })) ≡ false → IsBefore entry_cmp e (cut entry_cmp e list)
behind-held e start None list h r n =
    let before = before-from e start list h (sooner (int_cmp e.start start) n) in
    subst (IsBefore entry_cmp e) (sym (cut-before entry_cmp entry_total e list before)) before
behind-held e start (Some f) [] h r n = tt
behind-held e start (Some f) (g ∷ gs) h r n =
    not-after-front entry_cmp entry_total e g gs (λ k. let q = rw (held-cmp e f g start h.0 h.1 ∙ k) at n in cc) r

behind-front : (e : Entry) (t : Option Turn) (list : List Entry) → IsAs t list → Rises entry_cmp list → is_gt (head_cmp (Some (holds e)) t) ≡ false →
    IsBefore entry_cmp e (cut entry_cmp e list)
behind-front e None [] h r n = tt
behind-front e None (f ∷ fs) h r n = absurd h
behind-front e (Some t) list h r n = behind-held e t.start t.entry list h r n

strictly : (c : Ordering) (a b : ℕ) → b < a → is_gt (ordering_then c (nat_cmp a b)) ≡ false → c ≡ Less
strictly Less a b l h = refl
strictly Equal a b l h = let g : nat_cmp a b ≡ Greater = grind (arith, nat_tests) in cc
strictly Greater a b l h = cc

nothing-after : (k : Option Turn) → is_gt (head_cmp None k) ≡ false → k ≡ None
nothing-after None h = refl
nothing-after (Some e) h = cc

-- where nothing is held and nothing is to be drawn, all has ended
pub ended : (last : Option Occurrence) (t : Option Turn) → held_by t ≡ None → must_draw last t ≡ false → t ≡ None
ended last None h d = refl
ended last (Some t) h d = let no : true ≡ false = rw h at d in cc

-- what leads give next, their lists, and what is still to come of these
abbrev pub turns_of : {X : Type 0} → (X → Option ℤ) → (X → Option Occurrence) → List X → List (Option Turn)
turns_of unread head xs = map (λ x. turn_of (unread x) (head x)) xs

abbrev pub lists_of : {X : Type 0} → (X → Option Occurrence) → (X → List Entry) → List X → List (List Entry)
lists_of head rest xs = map (λ x. listed (head x) (rest x)) xs

abbrev pub pasts_of : {X : Type 0} → (X → Option Occurrence) → (X → List Entry) → Option Occurrence → List X → List (List Entry)
pasts_of head rest last xs = map (λ x. past last (listed (head x) (rest x))) xs

-- what is held by a turn is what the lead holds
pub turn-held : (unread : Option ℤ) (head : Option Occurrence) (rest : List Entry) → IsAhead unread head rest →
    held_by (turn_of unread head) ≡ option_map entry_of head
turn-held (Some from) None rest a = refl
turn-held (Some from) (Some o) rest a = absurd a
turn-held None None rest a = refl
turn-held None (Some o) rest a = refl

holding : (unread : Option ℤ) (head : Option Occurrence) (rest : List Entry) (o : Occurrence) → IsAhead unread head rest → head ≡ Some o →
    turn_of unread head ≡ Some (holds (entry_of o))
holding (Some from) None rest o a e = cc
holding (Some from) (Some p) rest o a e = absurd a
holding None None rest o a e = cc
holding None (Some p) rest o a e = ap (λ q. Some (holds (entry_of q))) (some-same p o e)

-- the turn of a lead that holds an occurrence, at its place
pub turn-at : {X : Type 0} (unread : X → Option ℤ) (head : X → Option Occurrence) (rest : X → List Entry)
    (ahead : (x : X) → IsAhead (unread x) (head x) (rest x)) (xs : List X) (i : ℕ) (d : X) {o : Occurrence} → i < length xs → head (get_or xs i d) ≡ Some o →
    get_or (turns_of unread head xs) i None ≡ Some (holds (entry_of o))
turn-at unread head rest ahead xs i d {o = o} l e =
    get_or-map (λ x. turn_of (unread x) (head x)) xs i d None l
    ∙ holding (unread (get_or xs i d)) (head (get_or xs i d)) (rest (get_or xs i d)) o (ahead (get_or xs i d)) e

module _ {X : Type 0} (unread : X → Option ℤ) (head : X → Option Occurrence) where
  held-one : (u : Option ℤ) (o : Option Occurrence) (e : Entry) → held_by (turn_of u o) ≡ Some e →
      (turn_of u o ≡ Some (holds e)) × (option_map entry_of o ≡ Some e)
  held-one (Some from) o e h = let no : None ≡ Some e = h in absurd cc
  held-one None None e h = let no : None ≡ Some e = h in absurd cc
  held-one None (Some o) e h = (ap (λ f. Some (holds f)) (some-same (entry_of o) e h), h)

  pub held-turn : (xs : List X) (i : ℕ) (e : Entry) → held_by (get_or (turns_of unread head xs) i None) ≡ Some e →
      (get_or (turns_of unread head xs) i None ≡ Some (holds e)) × (get_or (map (λ x. option_map entry_of (head x)) xs) i None ≡ Some e)
  held-turn [] i e h = let no : None ≡ Some e = h in absurd cc
  held-turn (x ∷ xs) zero e h = held-one (unread x) (head x) e h
  held-turn (x ∷ xs) (suc i) e h = held-turn xs i e h

-- leads, by what they give next, what they hold and what is left behind it
module _ {X : Type 0} (unread : X → Option ℤ) (head : X → Option Occurrence) (rest : X → List Entry)
    (ahead : (x : X) → IsAhead (unread x) (head x) (rest x)) where
  rises-listed : (u : Option ℤ) (o : Option Occurrence) (es : List Entry) → IsAhead u o es → Rises entry_cmp es → Rises entry_cmp (listed o es)
  rises-listed u None es a r = r
  rises-listed (Some from) (Some o) es a r = absurd a
  rises-listed None (Some o) es a r = (a, r)

  -- the list of each is as its turn says, and rises
  module _ (rises : (x : X) → Rises entry_cmp (rest x)) where
    all_rise : (xs : List X) → AllRise entry_cmp (lists_of head rest xs)
    all_rise [] = tt
    all_rise (x ∷ xs) = (rises-listed (unread x) (head x) (rest x) (ahead x) (rises x), all_rise xs)

    headed : (xs : List X) (i : ℕ) → IsAs (get_or (turns_of unread head xs) i None) (get_or (lists_of head rest xs) i [])
        × Rises entry_cmp (get_or (lists_of head rest xs) i [])
    headed [] i = (tt, tt)
    headed (x ∷ xs) zero = (turn-as (unread x) (head x) (rest x) (ahead x), (all_rise (x ∷ xs)).0)
    headed (x ∷ xs) (suc i) = headed xs i

  -- all leads have ended
  merged-nothing : (last : Option Occurrence) (xs : List X) → ((i : ℕ) → i < length xs → get_or (turns_of unread head xs) i None ≡ None)
      → merged entry_cmp (pasts_of head rest last xs) ≡ []
  merged-nothing last [] h = refl
  merged-nothing last (x ∷ xs) h =
      ap (λ l. union entry_cmp l (merged entry_cmp (pasts_of head rest last xs)))
      (past-nothing last (unread x) (head x) (rest x) (ahead x) (h 0 (omega arith)))
      ∙ merged-nothing last xs (λ i l. h (suc i) (omega arith))
    where
      past-nothing : (last : Option Occurrence) (u : Option ℤ) (o : Option Occurrence) (es : List Entry) → IsAhead u o es → turn_of u o ≡ None →
          past last (listed o es) ≡ []
      past-nothing None None None [] a e = refl
      past-nothing (Some p) None None [] a e = refl
      past-nothing last None None (f ∷ fs) a e = absurd a
      past-nothing last None (Some o) es a e = cc
      past-nothing last (Some from) o es a e = cc

  module _ (xs : List X) (winners : List ℕ) (counted : length winners ≡ node_count (length xs)) (settled : AreSettled (turns_of unread head xs) winners) where
    abbrev first : ℕ
    first = first_place winners

    -- no lead goes before the winner of all
    goes-first : (lead : ℕ) → lead < length xs → is_gt (lead_cmp (turns_of unread head xs) first lead) ≡ false
    goes-first lead l = goes-first-of (turns_of unread head xs) winners settled (length xs) counted lead l

    up-to-first : {k : Option Turn} (i : ℕ) → get_or (turns_of unread head xs) first None ≡ k → i < length xs →
        is_gt (head_cmp k (get_or (turns_of unread head xs) i None)) ≡ false
    up-to-first i is l =
        rw is at (up-to-front (head_cmp (get_or (turns_of unread head xs) first None) (get_or (turns_of unread head xs) i None)) (nat_cmp first i)
        (goes-first i l))

    -- where the first lead has ended, all have
    pub nothing-comes : (last : Option Occurrence) → get_or (turns_of unread head xs) first None ≡ None → merged entry_cmp (pasts_of head rest last xs) ≡ []
    nothing-comes last e = merged-nothing last xs (λ i l. nothing-after (get_or (turns_of unread head xs) i None) (up-to-first i e l))

    within : {i : ℕ} → i < length (lists_of head rest xs) → i < length xs
    within l = omega (arith, length-map xs (λ x. listed (head x) (rest x)))

    -- what the first lead holds comes before all of each list but for one of its key at the front, and first of all
    fronts-first : ((x : X) → Rises entry_cmp (rest x)) → (e : Entry) → get_or (turns_of unread head xs) first None ≡ Some (holds e)
        → AllFront entry_cmp e (lists_of head rest xs)
    fronts-first rises e is =
        all_front entry_cmp entry_total e (lists_of head rest xs)
        (λ i m. let at = headed rises xs i in
        behind-front e (get_or (turns_of unread head xs) i None) (get_or (lists_of head rest xs) i []) at.0 at.1 (up-to-first i is (within m)))

    begins-first : (rises : (x : X) → Rises entry_cmp (rest x)) → (e : Entry) → get_or (turns_of unread head xs) first None ≡ Some (holds e) →
        merged entry_cmp (lists_of head rest xs) ≡ e ∷ merged entry_cmp (map (cut entry_cmp e) (lists_of head rest xs))
    begins-first rises e is =
        let lists : List (List Entry) = lists_of head rest xs in
        let found = front-first e (get_or lists first []) (rw is at (headed rises xs first).0).1 in
        begins-at entry_cmp entry_total lists first (all_rise rises xs) found.1
        (λ i l m. let at = headed rises xs i in
        before-list e (get_or (turns_of unread head xs) i None) (get_or lists i []) at.0 at.1
        (strictly (head_cmp (Some (holds e)) (get_or (turns_of unread head xs) i None)) first i l (rw is at (goes-first i (within m)))))
        (fronts-first rises e is)

    -- where the first of all is not given, nothing of the lists was
    pub uncut-first : ((x : X) → Rises entry_cmp (rest x)) → (last : Option Occurrence) (o : Occurrence)
        → get_or (turns_of unread head xs) first None ≡ Some (holds (entry_of o)) → must_draw last (get_or (turns_of unread head xs) first None) ≡ false
        → ComeAfter last (pasts_of head rest last xs) → pasts_of head rest last xs ≡ lists_of head rest xs
    uncut-first rises None o is fresh follows = refl
    uncut-first rises (Some p) o is fresh follows =
        let one = map-map (cut entry_cmp (entry_of p)) (λ x. listed (head x) (rest x)) xs in
        let found = front-first (entry_of o) (get_or (lists_of head rest xs) first []) (rw is at (headed rises xs first).0).1 in
        let fronts = front-at entry_cmp entry_total (entry_of p) (lists_of head rest xs) first (rw (← one) at follows) in
        -- what is not given comes after what was given last
        let less : entry_cmp (entry_of p) (entry_of o) ≡ Less =
        ⊎_elim (λ l. l.0) (λ q. let n = rw (is, q.0) at fresh in cc)
        (front-cases entry_cmp entry_total (entry_of p) (entry_of o) found.0 (rw found.1 at fronts)) in
        sym one ∙ uncut entry_cmp entry_total (entry_of p) (entry_of o) (lists_of head rest xs) less (fronts-first rises (entry_of o) is)

    -- the first of all, where it is not given, comes next
    pub first-comes : ((x : X) → Rises entry_cmp (rest x)) → (last : Option Occurrence) (o : Occurrence)
        → get_or (turns_of unread head xs) first None ≡ Some (holds (entry_of o)) → must_draw last (get_or (turns_of unread head xs) first None) ≡ false
        → ComeAfter last (pasts_of head rest last xs)
        → (merged entry_cmp (pasts_of head rest last xs) ≡ entry_of o ∷ merged entry_cmp (pasts_of head rest (Some o) xs))
        × ComeAfter (Some o) (pasts_of head rest (Some o) xs)
    first-comes rises last o is fresh follows =
        let same = uncut-first rises last o is fresh follows in
        let one = map-map (cut entry_cmp (entry_of o)) (λ x. listed (head x) (rest x)) xs in (
          ap (merged entry_cmp) same ∙ (begins-first rises (entry_of o) is ∙ ap (λ ls. entry_of o ∷ merged entry_cmp ls) one),
          rw one at (fronts-first rises (entry_of o) is),
        )

-- drawing from what was not read, or holds what is given, leaves what is still to come
pub past-drawn : (last : Option Occurrence) (unread : Option ℤ) (head : Option Occurrence) (rest : List Entry) → IsAhead unread head rest →
    must_draw last (turn_of unread head) ≡ true → past last rest ≡ past last (listed head rest)
past-drawn last (Some from) None rest a g = refl
past-drawn last (Some from) (Some o) rest a g = absurd a
past-drawn (Some p) None (Some o) rest a g =
    let tied : entry_cmp (entry_of p) (entry_of o) ≡ Equal = eq-Equal (entry_cmp (entry_of p) (entry_of o)) g in
    rw tied (cut-before entry_cmp entry_total (entry_of p) rest (before-tied entry_cmp entry_total (entry_of p) (entry_of o) rest tied a))
past-drawn None None (Some o) rest a g = cc
past-drawn last None None rest a g = cc

-- and leaves less to draw
pub shorter-drawn : (last : Option Occurrence) (unread : Option ℤ) (head : Option Occurrence) (rest : List Entry) →
    must_draw last (turn_of unread head) ≡ true → length rest < to_draw unread (listed head rest)
shorter-drawn last (Some from) None rest g = omega arith
shorter-drawn last (Some from) (Some o) rest g = omega arith
shorter-drawn last None (Some o) rest g = omega arith
shorter-drawn last None None rest g = cc

-- what a vector has after its elements were lent as a slice of the same length
pub written-back : {X : Type 0} (before after : List X) (n : ℕ) → n ≡ length before → length after ≡ length before →
    take n (after ++ drop (length after) before) ≡ after
written-back before after n h k = ap (λ j. take j (after ++ drop (length after) before)) (h ∙ sym k) ∙ take-append_seam after (drop (length after) before)

-- a lead that is to draw is one of the leads
pub given-within : (last : Option Occurrence) (turns : List (Option Turn)) (lead : ℕ) → must_draw last (get_or turns lead None) ≡ true → lead < length turns
given-within last turns lead g =
    ⊎_elim (λ l. l) (λ l. absurd (let no = rw (get_or_past turns lead None l) at g in cc)) (cases_lt lead (length turns))

-- after a draw of a lead, whose value was old and is new
module _ {X : Type 0} (unread : X → Option ℤ) (head : X → Option Occurrence) (rest : X → List Entry) (xs : List X) (lead : ℕ) (old new : X)
    (read : old ≡ get_or xs lead old) where
  -- all winners stay right but for those above the lead
  pub settled-drawn : (winners : List ℕ) → AreSettled (turns_of unread head xs) winners
      → AreSettledBut (above 1 (length winners + lead)) (turns_of unread head (set xs lead new)) winners
  settled-drawn winners settled =
      settled_but (turns_of unread head xs) (turns_of unread head (set xs lead new)) winners lead
      (λ j h. ap (λ hs. get_or hs j None) (map-set (λ x. turn_of (unread x) (head x)) xs lead new)
      ∙ get_or-set_other (turns_of unread head xs) lead j (turn_of (unread new) (head new)) None h)
      settled

  pub given-read : (last : Option Occurrence) (first : ℕ) → lead ≡ first → must_draw last (get_or (turns_of unread head xs) first None) ≡ true
      → (lead < length xs) × (must_draw last (turn_of (unread old) (head old)) ≡ true)
  given-read last first is g =
      let within : lead < length xs =
      omega (arith, given-within last (turns_of unread head xs) first g, length-map xs (λ x. turn_of (unread x) (head x))) in
      (within, rw (← is, get_or-map (λ x. turn_of (unread x) (head x)) xs lead old None within, ← read) at g)

  to_come-set : (last : Option Occurrence) → past last (listed (head new) (rest new)) ≡ past last (listed (head old) (rest old))
      → pasts_of head rest last (set xs lead new) ≡ pasts_of head rest last xs
  to_come-set last e = map-set_same (λ x. past last (listed (head x) (rest x))) xs lead new old (e ∙ ap (λ x. past last (listed (head x) (rest x))) read)

  -- where nothing was drawn
  pub turns-kept : unread new ≡ unread old → head new ≡ head old → turns_of unread head (set xs lead new) ≡ turns_of unread head xs
  turns-kept u e =
      map-set_same (λ x. turn_of (unread x) (head x)) xs lead new old ((λ i. turn_of (u i) (e i)) ∙ ap (λ x. turn_of (unread x) (head x)) read)

  pub to_come-kept : (last : Option Occurrence) → head new ≡ head old → rest new ≡ rest old
      → pasts_of head rest last (set xs lead new) ≡ pasts_of head rest last xs
  to_come-kept last e r = to_come-set last (ap (λ h. past last (listed h (rest new))) e ∙ ap (λ l. past last (listed (head old) l)) r)

  -- where the first lead has drawn
  module _ (drawn : listed (head new) (rest new) ≡ rest old) (last : Option Occurrence) (first : ℕ) (is : lead ≡ first)
      (given : must_draw last (get_or (turns_of unread head xs) first None) ≡ true) where
    pub to_come-drawn : IsAhead (unread old) (head old) (rest old) → pasts_of head rest last (set xs lead new) ≡ pasts_of head rest last xs
    to_come-drawn ahead =
        to_come-set last (ap (past last) drawn ∙ past-drawn last (unread old) (head old) (rest old) ahead (given-read last first is given).1)

    pub fewer-drawn : unread new ≡ None
        → sum_by (λ x. to_draw (unread x) (listed (head x) (rest x))) (set xs lead new) < sum_by (λ x. to_draw (unread x) (listed (head x) (rest x))) xs
    fewer-drawn done =
        let known = given-read last first is given in
        let same : to_draw (unread (get_or xs lead old)) (listed (head (get_or xs lead old)) (rest (get_or xs lead old)))
        ≡ to_draw (unread old) (listed (head old) (rest old)) =
        ap (λ x. to_draw (unread x) (listed (head x) (rest x))) (sym read) in
        let less : to_draw (unread new) (listed (head new) (rest new)) < to_draw (unread old) (listed (head old) (rest old)) =
        rw (done, drawn) (shorter-drawn last (unread old) (head old) (rest old) known.1) in
        omega (arith, sum_by-set (λ x. to_draw (unread x) (listed (head x) (rest x))) xs lead new old known.0)

-- How far the rules of leads' feeds have been read, and of what events they are.
-- what holds of all of a list, where one of it is set, or one more stands behind it
pub all-set : {X : Type 0} (P : X → Type 0) (xs : List X) (i : ℕ) (x : X) → AllByRecursion P xs → P x → AllByRecursion P (set xs i x)
all-set P xs i x h p = recursion_from_All P (set xs i x) (All-set P xs i x p (All-from_recursion P xs h))

pub all-pushed : {X : Type 0} (P : X → Type 0) (xs : List X) (x : X) → AllByRecursion P xs → P x → AllByRecursion P (xs ++ x ∷ [])
all-pushed P xs x h p = recursion_from_All P (xs ++ x ∷ []) (All-push P xs x (All-from_recursion P xs h) p)

-- what each of a list gives, where one is set that gives the same as the old one
pub flat-set : {X Y : Type 0} (f : X → List Y) (xs : List X) (i : ℕ) {old : X} (new : X) → old ≡ get_or xs i old → f new ≡ f old →
    flat_map f (set xs i new) ≡ flat_map f xs
flat-set f [] i new read e = refl
flat-set f (x ∷ xs) zero new read e = ap (λ ys. ys ++ flat_map f xs) (e ∙ ap f read)
flat-set f (x ∷ xs) (suc i) new read e = ap (λ ys. f x ++ ys) (flat-set f xs i new read e)

-- a lead that was not read yet holds nothing
pub unread-list : (unread : Option ℤ) (head : Option Occurrence) (rest : List Entry) {from : ℤ} → IsAhead unread head rest → unread ≡ Some from
    → listed head rest ≡ rest
unread-list (Some f) None rest a e = refl
unread-list (Some f) (Some o) rest a e = absurd a
unread-list None head rest {from = from} a e = let no : None ≡ Some from = e in absurd cc

-- nothing was drawn from any of these
module _ {X : Type 0} (head : X → Option Occurrence) (rest : X → List Entry) (N : X → Entry → Type 0) where
  pub fresh-lists : (xs : List X) → AllByRecursion (λ x. IsFresh (N x) (head x) (rest x)) xs → map (λ x. listed (head x) (rest x)) xs ≡ map rest xs
  fresh-lists [] h = refl
  fresh-lists (x ∷ xs) h = (λ i. listed (h.0.0 i) (rest x) ∷ fresh-lists xs h.1 i)

  pub fresh-near : (xs : List X) → AllByRecursion (λ x. IsFresh (N x) (head x) (rest x)) xs
      → AllByRecursion (λ x. AreNear (N x) (listed (head x) (rest x))) xs
  fresh-near xs = all-as (λ x. IsFresh (N x) (head x) (rest x)) (λ x. AreNear (N x) (listed (head x) (rest x))) xs
      (λ x h o m. h.1 o (subst (λ held. IsIn o (listed held (rest x))) h.0 m))

past-in : (last : Option Occurrence) (o : Entry) (list : List Entry) → IsIn o (past last list) → IsIn o list
past-in None o list m = m
past-in (Some p) o list m = in-cut entry_cmp entry_total (entry_of p) o list m

before-merged : (p : Entry) (lists : List (List Entry)) → AllByRecursion (IsBefore entry_cmp p) lists → IsBefore entry_cmp p (merged entry_cmp lists)
before-merged p [] h = tt
before-merged p (x ∷ xs) h = before-union entry_cmp entry_total p x (merged entry_cmp xs) h.0 (before-merged p xs h.1)

-- leads, by what they hold, what is left behind it and how far they have been read
module _ {X : Type 0} (head : X → Option Occurrence) (rest : X → List Entry) (N : X → Entry → Type 0) where
  abbrev IsLeadNear : Option Occurrence → X → Type 0
  IsLeadNear last x = AreNear (N x) (past last (listed (head x) (rest x)))

  -- where one of them has drawn, or could not
  module _ (last : Option Occurrence) (xs : List X) (i : ℕ) (old new : X) where
    pub near-drawn : listed (head new) (rest new) ≡ rest old → AreNear (N new) (rest old) → AllByRecursion (IsLeadNear last) xs
        → AllByRecursion (IsLeadNear last) (set xs i new)
    near-drawn drawn near all = all-set (IsLeadNear last) xs i new all (λ o m. near o (past-in last o (rest old) (rw drawn at m)))

    pub near-kept : head new ≡ head old → rest new ≡ rest old → past last (rest old) ≡ past last (listed (head old) (rest old))
        → AreNear (N new) (rest old) → AllByRecursion (IsLeadNear last) xs → AllByRecursion (IsLeadNear last) (set xs i new)
    near-kept same left whole near all =
        all-set (IsLeadNear last) xs i new all (λ o m. near o (past-in last o (rest old) (rw (same, left, ← whole) at m)))

  -- where nothing of their lists was given
  pub near-whole : (last : Option Occurrence) (xs : List X) → pasts_of head rest last xs ≡ lists_of head rest xs →
      AllByRecursion (IsLeadNear last) xs → AllByRecursion (λ x. AreNear (N x) (listed (head x) (rest x))) xs
  near-whole last [] e h = tt
  near-whole last (x ∷ xs) e h =
      let one : past last (listed (head x) (rest x)) ≡ listed (head x) (rest x) = cc in
      let more : pasts_of head rest last xs ≡ lists_of head rest xs = cc in
      (λ o m. h.0 o (rw (← one) at m), near-whole last xs more h.1)

  abbrev IsNear : X → Type 0
  IsNear x = AreNear (N x) (listed (head x) (rest x))

  abbrev IsNearAt : Entry → X → Type 0
  IsNearAt o x = HasNear (N x) (listed (head x) (rest x)) o

  pub near-past : (last : Option Occurrence) (xs : List X) → AllByRecursion IsNear xs → AllByRecursion (IsLeadNear last) xs
  near-past last xs = all-as IsNear (IsLeadNear last) xs (λ x h o m. h o (past-in last o (listed (head x) (rest x)) m))

  pub near-each : (o : Entry) (xs : List X) → AllByRecursion IsNear xs → AllByRecursion (IsNearAt o) xs
  near-each o xs = all-as IsNear (IsNearAt o) xs (λ x h. h o)

  -- where it is still to come of the merge
  pub near-to_come : (last : Option Occurrence) (o : Entry) (xs : List X) → ComeAfter last (pasts_of head rest last xs) →
      IsIn o (merged entry_cmp (pasts_of head rest last xs)) → AllByRecursion (IsLeadNear last) xs → AllByRecursion (IsNearAt o) xs
  near-to_come last o xs follows there =
      all-as (IsLeadNear last) (IsNearAt o) xs (λ x h m. h o (uncut last follows (listed (head x) (rest x)) m))
    where
      -- it is not cut off a list
      uncut : (given : Option Occurrence) → ComeAfter given (pasts_of head rest last xs) → (list : List Entry) → IsIn o list → IsIn o (past given list)
      uncut None come list m = m
      uncut (Some p) come list m =
          let less = before-in entry_cmp entry_total (entry_of p) o (merged entry_cmp (pasts_of head rest last xs))
          (before-merged (entry_of p) (pasts_of head rest last xs) come) there in
          member-cut entry_cmp entry_total (entry_of p) o list (λ t. cc) m
