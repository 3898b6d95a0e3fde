-- The versions of files, one file after the other. All sorted, of each subject the last is the one that counts, and there is exactly one.
use Rattle.std.proofs.Common.{◌≡◌, ℕ, ℤ, List, [], ◌∷◌, Option, Some, None, inl, inr, ⊎_elim, Bool, true, false, cond, refl, sym, ◌∙◌, ap, subst, ◌+◌}
use Rattle.std.proofs.Common.{add-one, ◌++◌, map, drop, get_or, option_map, ◌&&◌, slice_get, int_cmp, nat_cmp, is_eq, is_gt, is_lt, int_eq, Ordering, Less}
use Rattle.std.proofs.Common.{Equal, Greater, drop-cons, append_assoc, filter, IsSome, option_and_then, arith, zero, suc}
use Rattle.std.specs.Cmp.{IsTotalOrder, unsigned_ties}
use Rattle.std.specs.Cmp.Lexicographic.{options_total, slice_cmp, lists_ties}
use Rattle.std.specs.Option.{option_cmp, option_eq}
use Rattle.std.specs.Ordering.{ordering_then, ordering_reverse, on, then_cmp}
use Rattle.std.proofs.lemmas.Cmp.{int_cmp_total, nat_list_cmp_total, on_total, then_total, tied_itself, nat_cmp_total}
use Rattle.std.proofs.lemmas.Map.Lookups.{exact_bytes, exact_signed, exact_pairs, exact_unsigned}
use Rattle.std.proofs.lemmas.List.{get_or_default, map-append}
use Rattle.std.proofs.lemmas.List.Elements.{Contains-get_or}
use Rattle.std.proofs.lemmas.List.MinMax.{IsFirstBest-from_best_of, IsStrictWeakOrder-flip, ranks_by}
use Rattle.std.proofs.lemmas.Option.{get_or_from_slice_get, slice_get-map, slice_get_within}
use Rattle.ics_file.specs.File.{FileSaid, said_by}
use Rattle.ics_event.specs.declared.event.Event.{Event}
use Rattle.ics_file.specs.declared.events.FileEvents.{FileEvents}
use Rattle.ics_zone.specs.ZoneSaid.{zone_said}
use Rattle.ics_series.specs.Chosen.{subject_of, IsChosen, SubjectSeen, overridden, subject_by}
use Rattle.ics_listing.specs.FileClocks.{Clock, Clocks}
use Rattle.ics_starts.specs.Clocks.{clocks_of}
use Rattle.ics_listing.specs.Listing.{IsIn, IsListing}
use Rattle.ics_series.specs.PlacedEvents.{Placed, IsPlaced, placed_cmp, clocks_at, zones_of}
use Rattle.ics_series.specs.Versions.{by_subject, subject_cmp, version_cmp, lasts, is_followed, label_by, label_of, placed_from, placed_in, Label, seen}
use Rattle.ics_series.specs.Versions.{label_cmp, is_same, AreChosen, spot_of}
use Rattle.ics_listing.proofs.ListingLemmas.{Climbs, up-to-in, climbs-map, map-climbs, followed, contains-in, in-contains, in-permutation, less-up-to}
use Rattle.ics_listing.proofs.ListingLemmas.{not-less-itself, relisted, filter-in, get-in, in-filter, in-append, in-append_left, in-append_right}
use Rattle.ics_listing.proofs.Cases.{eq-Equal, less-by, up-to-front, some-same, by-cases, option-cases}
use Rattle.ics_listing.proofs.BeginsLemmas.{before-all}
use Rattle.std.specs.List.Sorted.{IsPermutation}
use Rattle.std.proofs.lemmas.List.Sorted.{IsPermutation-map, IsPermutation-sym}
use Rattle.ics_series.specs.declared.version.Version.{Version}
use Rattle.ics_series.specs.Laws.{HasVersion}
use Rattle.ics_listing.specs.Entry.{Entry}
use Rattle.ics_listing.specs.declared.window.Window.{Window}
use Rattle.ics_starts.specs.MeetsWindow.{Meets}
use Rattle.ics_series.specs.Occurs.{IsMoved}
use Rattle.ics_starts.specs.Instances.{IsOf}
use Rattle.ics_series.specs.Spots.{event_at}
use Rattle.ics_starts.proofs.EntryLemmas.{entry_start_cmp}

-- The list of a folder's events holds each that stands there.
-- A file's events, of which the first stands at a place.
placed_from-in : (file place : ℕ) (events : List Event) (p : Placed) → IsIn p (placed_from file place events) →
    (k : ℕ) × (p.file ≡ file) × (p.place ≡ place + k) × (slice_get events k ≡ Some p.event)
placed_from-in file place [] p m = absurd m
placed_from-in file place (e ∷ es) p (inl s) = (0, ap (λ q. q.file) s, ap (λ q. q.place) s ∙ omega arith, ap (λ q. Some q.event) (sym s))
placed_from-in file place (e ∷ es) p (inr n) = let h = placed_from-in file (place + 1) es p n in (suc h.0, h.1, omega (arith, h.2), h.3)

in-placed_from : (file place k : ℕ) (events : List Event) {event : Event} {at : ℕ} → at ≡ place + k → slice_get events k ≡ Some event →
    IsIn (record { file = file; place = at; event = event }) (placed_from file place events)
in-placed_from file place k [] {event = event} a e = let f : None ≡ Some event = e in cc
in-placed_from file place zero (x ∷ xs) {event = event} a e =
    let same = some-same event x (sym e) in
    let here = a ∙ omega arith in
    inl (λ i. record { file = file; place = here i; event = same i })
in-placed_from file place (suc k) (x ∷ xs) a e = inr (in-placed_from file (place + 1) k xs (omega (arith, a)) e)

-- The events of files, of which the first has a number.
placed_in-in : (file : ℕ) (files : List FileSaid) (p : Placed) → IsIn p (placed_in file files) →
    (k : ℕ) × (of : FileSaid) × (p.file ≡ file + k) × (slice_get files k ≡ Some of) × (slice_get of.events p.place ≡ Some p.event)
placed_in-in file [] p m = absurd m
placed_in-in file (f ∷ fs) p m =
    ⊎_elim
    (λ a. let h = placed_from-in file 0 f.events p a in (0, f, omega (arith, h.1), refl, ap (slice_get f.events) (omega (arith, h.2)) ∙ h.3))
    (λ n. let h = placed_in-in (file + 1) fs p n in (suc h.0, h.1, omega (arith, h.2), h.3, h.4))
    (in-append p (placed_from file 0 f.events) (placed_in (file + 1) fs) m)

in-placed_in : (file : ℕ) (files : List FileSaid) (p : Placed) →
    (k : ℕ) × (of : FileSaid) × (p.file ≡ file + k) × (slice_get files k ≡ Some of) × (slice_get of.events p.place ≡ Some p.event) →
    IsIn p (placed_in file files)
in-placed_in file [] p (k, of, a, h, e) = let f : None ≡ Some of = h in absurd cc
in-placed_in file (f ∷ fs) p (zero, of, a, h, e) =
    let same : f ≡ of = some-same f of h in
    in-append_left p (placed_from file 0 f.events) (placed_in (file + 1) fs)
    (subst (λ n. IsIn (record { file = n; place = p.place; event = p.event }) (placed_from file 0 f.events)) (omega (arith, a))
    (in-placed_from file 0 p.place f.events (omega arith) (ap (λ x. slice_get x.events p.place) same ∙ e)))
in-placed_in file (f ∷ fs) p (suc k, of, a, h, e) =
    in-append_right p (placed_from file 0 f.events) (placed_in (file + 1) fs) (in-placed_in (file + 1) fs p (k, of, omega (arith, a), h, e))

pub placed-in : (files : List FileSaid) (p : Placed) → IsPlaced files p → IsIn p (placed_in 0 files)
placed-in files p h = in-placed_in 0 files p (p.file, h.within.0, omega arith, h.within.1, h.within.2)

pub in-placed : (files : List FileSaid) (p : Placed) → IsIn p (placed_in 0 files) → IsPlaced files p
in-placed files p m = let h = placed_in-in 0 files p m in record { within = (h.1, ap (slice_get files) (omega (arith, h.2)) ∙ h.3, h.4) }

-- One version of a subject counts, and an event has one occurrence at most with a start.
pub placed_total : IsTotalOrder placed_cmp
placed_total = then_total (on_total (λ p. p.event.sequence) nat_cmp_total)
    (then_total (on_total (λ p. p.file) nat_cmp_total) (on_total (λ p. p.place) nat_cmp_total))

-- of two of which neither is less, the places are the same
tied-by : (p q : Placed) → (placed_cmp p q ≡ Less → ⊥) → (placed_cmp q p ≡ Less → ⊥) → placed_cmp p q ≡ Equal
tied-by p q h k = by-cases (placed_cmp p q) (λ e. absurd (h e)) (λ e. e) (λ e. absurd (k (placed_total.antisymm q p ∙ ap ordering_reverse e)))

pub second-equal : (a b : Ordering) → ordering_then a b ≡ Equal → (a ≡ Equal) × (b ≡ Equal)
second-equal Less b h = let f : Less ≡ Equal = h in cc
second-equal Equal b h = (refl, h)
second-equal Greater b h = let f : Greater ≡ Equal = h in cc

-- of one place there is one event
pub same-placed : (files : List FileSaid) (p q : Placed) → IsPlaced files p → IsPlaced files q → placed_cmp p q ≡ Equal → p ≡ q
same-placed files p q h k e =
    let same = exact_pairs nat_cmp (λ (x y : ℕ × ℕ). ordering_then (nat_cmp x.0 y.0) (nat_cmp x.1 y.1)) exact_unsigned
    (exact_pairs nat_cmp nat_cmp exact_unsigned exact_unsigned) (p.event.sequence, (p.file, p.place)) (q.event.sequence, (q.file, q.place)) e in
    let file : p.file ≡ q.file = ap (λ (x : ℕ × (ℕ × ℕ)). x.1.0) same in
    let place : p.place ≡ q.place = ap (λ (x : ℕ × (ℕ × ℕ)). x.1.1) same in
    let of : h.within.0 ≡ k.within.0 = some-same _ _ (sym h.within.1 ∙ (ap (slice_get files) file ∙ k.within.1)) in
    let event : p.event ≡ q.event =
    some-same _ _ (sym h.within.2 ∙ (ap (λ x. slice_get x.events p.place) of ∙ (ap (slice_get k.within.0.events) place ∙ k.within.2))) in
    λ i. record { file = file i; place = place i; event = event i }

-- of a subject one version counts
pub one-chosen : {files : List FileSaid} {display : Clock} {p q : Placed} → IsChosen files display p → IsChosen files display q →
    subject_of files display p ≡ subject_of files display q → p ≡ q
one-chosen {files = files} {p = p} {q = q} h k u =
    same-placed files p q h.placed k.placed
    (tied-by p q (h.greatest q k.placed (sym u)) (k.greatest p h.placed u))

module _ (files : List FileEvents) (display : Clock) where
  abbrev said : List FileSaid
  said = map said_by files

  labels-from : (clocks : Clocks) (file place : ℕ) (events : List Event) → clocks ≡ clocks_at said display file
      → map (label_by clocks) (placed_from file place events) ≡ map (label_of said display) (placed_from file place events)
  labels-from clocks file place [] e = refl
  labels-from clocks file place (v ∷ vs) e =
      (λ i. label_by (e i) (record { file = file; place = place; event = v }) ∷ labels-from clocks file (place + 1) vs e i)

  clocks-there : (number : ℕ) (file : FileEvents) → slice_get files number ≡ Some file →
      clocks_of display (map zone_said file.zones) ≡ clocks_at said display number
  clocks-there number file there =
      ap (clocks_of display) (sym (ap zones_of (slice_get-map said_by files number ∙ ap (option_map said_by) there)))

  -- the versions of one file more
  pub labels-step : (number : ℕ) (file : FileEvents) (before : List Label) {after total : List Label} → slice_get files number ≡ Some file
      → after ≡ before ++ map (label_by (clocks_of display (map zone_said file.zones))) (placed_from number 0 file.events)
      → before ++ map (label_of said display) (placed_in number (map said_by (drop number files))) ≡ total
      → after ++ map (label_of said display) (placed_in (number + 1) (map said_by (drop (number + 1) files))) ≡ total
  labels-step number file before there more whole =
      let here = map (label_of said display) (placed_from number 0 file.events) in
      let rest = map (label_of said display) (placed_in (number + 1) (map said_by (drop (number + 1) files))) in
      let next : drop number files ≡ file ∷ drop (number + 1) files =
      drop-cons files number file (slice_get_within files number file there)
      ∙ (λ i. get_or_from_slice_get files number file file there i ∷ drop (sym (add-one number) i) files) in
      let placed : map (label_of said display) (placed_in number (map said_by (drop number files))) ≡ here ++ rest =
      ap (λ fs. map (label_of said display) (placed_in number (map said_by fs))) next
      ∙ map-append (label_of said display) (placed_from number 0 file.events) (placed_in (number + 1) (map said_by (drop (number + 1) files))) in
      ap (λ l. l ++ rest) (more
      ∙ ap (λ l. before ++ l) (labels-from (clocks_of display (map zone_said file.zones)) number 0 file.events (clocks-there number file there)))
      ∙ (append_assoc before here rest ∙ (ap (λ l. before ++ l) (sym placed) ∙ whole))

pub subject_total : IsTotalOrder subject_cmp
subject_total = then_total (on_total (λ s. s.uid) nat_list_cmp_total) (on_total (λ s. s.recurrence) (options_total int_cmp_total))

exact-option : (a b : Option ℤ) → option_cmp int_cmp a b ≡ Equal → a ≡ b
exact-option None None e = refl
exact-option (Some x) (Some y) e = ap Some (exact_signed x y e)
exact-option _ _ e = cc

-- subjects that tie are one
pub exact-subject : (a b : SubjectSeen) → subject_cmp a b ≡ Equal → a ≡ b
exact-subject a b e =
    ap (λ (s : List ℕ × Option ℤ). record { uid = s.0; recurrence = s.1 })
    (exact_pairs (slice_cmp nat_cmp) (option_cmp int_cmp) exact_bytes exact-option (a.uid, a.recurrence) (b.uid, b.recurrence) e)

module _ (files : List FileSaid) (display : Clock) where
  abbrev group : Placed → Placed → Ordering
  group = by_subject files display

  abbrev order : Placed → Placed → Ordering
  order = version_cmp files display

  pub group-total : IsTotalOrder group
  group-total = on_total (subject_of files display) subject_total

  order-total : IsTotalOrder order
  order-total = then_total group-total placed_total

  -- what of the list comes after it is of a later subject
  abbrev IsTop : List Placed → Placed → Type 0
  IsTop xs e = IsIn e xs × ((q : Placed) → IsIn q xs → order e q ≡ Less → group e q ≡ Less)

  not-back : (p q : Placed) → is_gt (order p q) ≡ false → order q p ≡ Less → ⊥
  not-back p q g l = let f : is_gt Greater ≡ false = ap is_gt (sym (order-total.antisymm p q ∙ ap ordering_reverse l)) ∙ g in absurd cc

  -- a test of one subject
  module _ (same : Placed → Placed → Bool) (ties : (p q : Placed) → same p q ≡ is_eq (group p q)) where
    abbrev IsFollowed : Bool → Placed → List Placed → Type 0
    IsFollowed true x xs = (y : Placed) × IsIn y xs × (group x y ≡ Equal)
    IsFollowed false x xs = (y : Placed) → IsIn y xs → group x y ≡ Less

    followed-by : (x : Placed) (xs : List Placed) (b : Bool) → is_followed same x xs ≡ b → Climbs order (x ∷ xs) → IsFollowed b x xs
    followed-by x [] true e h = let f : false ≡ true = e in absurd cc
    followed-by x [] false e h = λ y m. absurd m
    followed-by x (y ∷ ys) true e h = (y, inl refl, eq-Equal (group x y) (sym (ties x y) ∙ e))
    followed-by x (y ∷ ys) false e h =
        let next = less-by (group x y) (up-to-front (group x y) (placed_cmp x y) h.0.0) (sym (ties x y) ∙ e) in
        λ z m. ⊎_elim (λ s. ap (group x) s ∙ next)
        (λ n. less-up-to group group-total x y z next (up-to-front (group y z) (placed_cmp y z) (up-to-in order y z ys h.1.0 n))) m

    -- of a list in order the last of each subject are the listing of those that no other of their subject follows
    lasts-listing : (xs : List Placed) → Climbs order xs → ((p q : Placed) → IsIn p xs → IsIn q xs → order p q ≡ Equal → p ≡ q)
        → IsListing group (IsTop xs) (lasts same xs)
    lasts-listing [] h one = record { rises = tt; exact = λ e. (λ m. absurd m, λ t. absurd t.0) }
    lasts-listing (x ∷ xs) h one =
        by (is_followed same x xs) (followed-by x xs (is_followed same x xs) refl h) (lasts-listing xs h.1 (λ p q m n. one p q (inr m) (inr n)))
      where
        behind : (e : Placed) → IsTop xs e → IsTop (x ∷ xs) e
        behind e t = (
          inr t.0,
          λ q n l. ⊎_elim (λ s. absurd (not-back x e (up-to-in order x e xs h.0 t.0) (ap (order e) (sym s) ∙ l))) (λ k. t.1 q k l) n,
        )

        itself : (y : Placed) (c : Ordering) → order x y ≡ c → IsIn y xs → (c ≡ Less → ⊥) → IsIn x xs
        itself y Less e n not = absurd (not refl)
        itself y Equal e n not = subst (λ z. IsIn z xs) (sym (one x y (inl refl) (inr n) e)) n
        itself y Greater e n not = let f : is_gt Greater ≡ false = ap is_gt (sym e) ∙ up-to-in order x y xs h.0 n in absurd cc

        by : (b : Bool) → IsFollowed b x xs → IsListing group (IsTop xs) (lasts same xs) →
            IsListing group (IsTop (x ∷ xs)) (cond b (lasts same xs) (x ∷ lasts same xs))
        by true f l = relisted l behind (λ e t. (
          ⊎_elim (λ s. subst (λ z. IsIn z xs) (sym s) (itself f.0 (order x f.0) refl f.1
              (λ less. let k : group x f.0 ≡ Less = subst (λ z. order z f.0 ≡ Less → group z f.0 ≡ Less) s (t.1 f.0 (inr f.1)) less in cc)))
              (λ n. n) t.0,
          λ q k. t.1 q (inr k),
        ))
        by false f l = record {
          rises = (before-all group x (lasts same xs) (λ y m. f y ((l.exact y).0 m).0), l.rises);
          exact = λ e. (
            ⊎_elim (λ s. (
              inl s,
              λ q n less. ⊎_elim (λ k. absurd (not-less-itself order order-total e (ap (order e) (s ∙ sym k) ∙ less)))
                  (λ k. ap (λ z. group z q) s ∙ f q k) n,
            ))
                (λ m. behind e ((l.exact e).0 m)),
            λ t. ⊎_elim inl (λ n. inr ((l.exact e).1 (n, λ q k. t.1 q (inr k)))) t.0,
          );
        }

    tied : (e q : Placed) → subject_of files display q ≡ subject_of files display e → group e q ≡ Equal
    tied e q u = ap (subject_cmp (subject_of files display e)) u ∙ tied_itself subject_total (subject_of files display e)

    top-by : {e q : Placed} (c : Ordering) → group e q ≡ c → IsChosen files display e → IsPlaced files q → ordering_then c (placed_cmp e q) ≡ Less → c ≡ Less
    top-by {e = e} {q = q} Equal is k n l = absurd (k.greatest q n (sym (exact-subject (subject_of files display e) (subject_of files display q) is)) l)
    top-by _ is k n l = l

    -- of all that stand in a folder, in order, the last of each subject are those that count
    pub lasts-chosen : (xs : List Placed) → Climbs order xs → ((p : Placed) → IsIn p xs → IsPlaced files p) → ((p : Placed) → IsPlaced files p → IsIn p xs)
        → IsListing group (IsChosen files display) (lasts same xs)
    lasts-chosen xs h f g =
        relisted (lasts-listing xs h (λ p q m n t. same-placed files p q (f p m) (f q n) (second-equal (group p q) (placed_cmp p q) t).1))
        (λ e t. record {
          placed = f e t.0;
          greatest = λ q r u c. let n = tied e q u in let k = t.1 q (g q r) (ap (λ o. ordering_then o (placed_cmp e q)) n ∙ c) in cc;
        })
        (λ e k. (g e k.placed, λ q n. top-by (group e q) refl k (f q n)))

pub label_total : IsTotalOrder label_cmp
label_total =
    then_total (on_total (λ l. l.subject) subject_total)
    (then_total (on_total (λ l. l.sequence) nat_cmp_total)
    (then_total (on_total (λ l. l.spot.file) nat_cmp_total) (on_total (λ l. l.spot.place) nat_cmp_total)))

-- Versions are the same where their subjects tie.
option-ties : (a b : Option ℤ) → option_eq int_eq a b ≡ is_eq (option_cmp int_cmp a b)
option-ties None None = refl
option-ties (Some x) (Some y) = refl
option-ties _ _ = refl

pub both-tie : (c d : Ordering) → (is_eq c && is_eq d) ≡ is_eq (ordering_then c d)
both-tie Less d = refl
both-tie _ d = refl

same-ties : (a b : Label) → is_same a b ≡ is_eq (subject_cmp a.subject b.subject)
same-ties a b =
    rw (lists_ties nat_cmp unsigned_ties a.subject.uid b.subject.uid, option-ties a.subject.recurrence b.subject.recurrence)
    (both-tie (slice_cmp nat_cmp a.subject.uid b.subject.uid) (option_cmp int_cmp a.subject.recurrence b.subject.recurrence))

module _ {A B : Type 0} (f : A → B) (same : B → B → Bool) where
  lasts-map : (xs : List A) → lasts same (map f xs) ≡ map f (lasts (on f same) xs)
  lasts-map [] = refl
  lasts-map (x ∷ []) = refl
  lasts-map (x ∷ y ∷ ys) = by (same (f x) (f y)) (lasts-map (y ∷ ys))
    where
      by : (b : Bool) → lasts same (map f (y ∷ ys)) ≡ map f (lasts (on f same) (y ∷ ys))
          → cond b (lasts same (map f (y ∷ ys))) (f x ∷ lasts same (map f (y ∷ ys)))
          ≡ map f (cond b (lasts (on f same) (y ∷ ys)) (x ∷ lasts (on f same) (y ∷ ys)))
      by true h = h
      by false h = ap (λ l. f x ∷ l) h

pub found : {files : List FileSaid} {display : Clock} {vs ws last : List Version} → map seen vs ≡ map (label_of files display) (placed_in 0 files) →
    IsPermutation vs ws → Climbs (on seen label_cmp) ws
    → map seen last ≡ lasts is_same (map seen ws) → AreChosen files display last
found {files = files} {display = display} {vs = vs} {ws = ws} e p s l =
    let moved = followed (label_of files display) (placed_in 0 files) (map seen vs) (map seen ws) e (IsPermutation-map seen vs ws p) in
    let xs = moved.0 in
    let climbs : Climbs (on (label_of files display) label_cmp) xs =
    climbs-map (label_of files display) label_cmp xs
    (subst (Climbs label_cmp) (sym moved.2) (map-climbs seen label_cmp ws s)) in
    record {
      chosen = lasts (on (label_of files display) is_same) xs;
      listing = lasts-chosen files display (on (label_of files display) is_same) (λ a b. same-ties (label_of files display a) (label_of files display b)) xs
          climbs
          (λ a m. in-placed files a (in-permutation a xs (placed_in 0 files) (IsPermutation-sym (placed_in 0 files) xs moved.1) m))
          (λ a h. in-permutation a (placed_in 0 files) xs moved.1 (placed-in files a h));
      are = l ∙ (ap (lasts is_same) (sym moved.2) ∙ lasts-map (label_of files display) is_same xs);
    }

-- one of a list than which none is greater
greatest-in : {A : Type 0} {R : A → A → Ordering} (o : IsTotalOrder R) (x : A) (xs : List A) →
    (best : A) × IsIn best (x ∷ xs) × ((y : A) → IsIn y (x ∷ xs) → is_lt (R best y) ≡ false)
greatest-in {R = R} o x xs =
    let b = IsFirstBest-from_best_of (IsStrictWeakOrder-flip (λ v w. is_lt (R v w)) (ranks_by o (λ v. v))) x xs in (
      get_or (x ∷ xs) b.0 x,
      in-contains (get_or (x ∷ xs) b.0 x) (x ∷ xs) (Contains-get_or (x ∷ xs) b.0 x b.1.0),
      λ y m. let k = contains-in y (x ∷ xs) m in
          ap (λ v. is_lt (R (get_or (x ∷ xs) b.0 x) v)) (sym (get_or_default (x ∷ xs) k.0 x y k.1 ∙ k.2)) ∙ b.1.1 k.0 x k.1,
    )

-- An event of the folder has exactly one version that counts: of those of its subject the greatest.
pub one-version : (files : List FileSaid) (display : Clock) (p : Placed) → IsPlaced files p → HasVersion files display p
one-version files display p h =
    let subject = subject_of files display in
    let test : Placed → Bool = λ q. is_eq (subject_cmp (subject_of files display q) (subject_of files display p)) in
    let best = greatest-in placed_total p (filter test (placed_in 0 files)) in
    let of : IsPlaced files best.0 × (subject_of files display best.0 ≡ subject_of files display p) =
    ⊎_elim (λ e. (subst (IsPlaced files) (sym e) h, ap subject e)) (λ m.
    let k = filter-in test best.0 (placed_in 0 files) m in
    (in-placed files best.0 k.0, exact-subject (subject best.0) (subject p) (eq-Equal (subject_cmp (subject best.0) (subject p)) k.1))) best.1 in
    let chosen : IsChosen files display best.0 = record {
      placed = of.0;
      greatest = λ q m u l.
          let same = ap (λ s. is_eq (subject_cmp s (subject p))) (u ∙ of.1) ∙ ap is_eq (tied_itself subject_total (subject p)) in
          let f : true ≡ false = ap is_lt (sym l) ∙ best.2 q (inr (in-filter test q (placed_in 0 files) same (placed-in files q m))) in absurd cc;
    } in
    record { version = best.0; counts = chosen; same = of.1; one = λ q k u. one-chosen k chosen (u ∙ sym of.1) }

-- What the versions that count give in a window, one version after the other.
-- what an event gives: a master each of its own occurrences, an override that of the instance for which it stands
abbrev pub IsGivenBy : Clocks → Event → Option ℤ → Entry → Type 0
IsGivenBy clocks event None o = IsOf clocks event o
IsGivenBy clocks event (Some recurrence) o = IsMoved clocks event o × (o.recurrence ≡ recurrence)

-- what a version that counts gives, and that meets the window
pub record IsGiven (files : List FileSaid) (display : Clock) (w : Window) (o : Entry) : Type 0 where
  pub by : Placed
  pub chosen : IsChosen files display by
  pub is : IsGivenBy (clocks_at files display by.file) by.event (overridden (clocks_at files display by.file) by.event) o × Meets w o

-- the subject of what gave an occurrence
abbrev pub subject_from : Entry → SubjectSeen
subject_from o = record { uid = o.event.uid; recurrence = option_map (λ time. o.recurrence) o.event.recurrence }

-- by subject, then by start
abbrev pub given_cmp : Entry → Entry → Ordering
given_cmp = then_cmp (on subject_from subject_cmp) entry_start_cmp

-- The events that stand there.
pub placed-event : (files : List FileSaid) (p : Placed) → IsPlaced files p → event_at files (spot_of p) ≡ Some p.event
placed-event files p h = ap (option_and_then (λ f. slice_get f.events p.place)) h.within.1 ∙ h.within.2

module _ {A B : Type 0} (f : A → B) where
  pub in-map : (y : B) (xs : List A) → IsIn y (map f xs) → (x : A) × IsIn x xs × (y ≡ f x)
  in-map y [] m = absurd m
  in-map y (x ∷ xs) m = ⊎_elim (λ e. (x, inl refl, e)) (λ n. let k = in-map y xs n in (k.0, inr k.1, k.2)) m

  pub map-in : (x : A) (xs : List A) → IsIn x xs → IsIn (f x) (map f xs)
  map-in x [] m = absurd m
  map-in x (y ∷ ys) m = ⊎_elim (λ e. inl (ap f e)) (λ n. inr (map-in x ys n)) m

pub stands : {files : List FileSaid} {display : Clock} {versions : List Version} {v : Version} (i : ℕ) → AreChosen files display versions →
    slice_get versions i ≡ Some v → IsSome (event_at files v.spot)
stands {files = files} {display = display} {versions = versions} {v = v} i h e =
    let there = map-in seen v versions (get-in v versions i e) in
    let p = in-map (label_of files display) (seen v) h.chosen (subst (IsIn (seen v)) h.are there) in
    rw (ap (λ (l : Label). event_at files l.spot) p.2 ∙ placed-event files p.0 ((h.listing.exact p.0).0 p.1).placed) refl

-- what a version gives has its subject
pub given-subject : (clocks : Clocks) (event : Event) (o : Entry) → IsGivenBy clocks event (overridden clocks event) o →
    subject_from o ≡ subject_by clocks event
given-subject clocks event o h =
    option-cases event.recurrence (λ e. let k = rw e at h in rw (k.event, e) refl) (λ time e. let k = rw e at h in rw (k.0.event, e, k.1) refl)
