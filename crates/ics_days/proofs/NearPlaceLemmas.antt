-- The places near a day, and those that wait.
use Rattle.std.proofs.Common.{◌≡◌, ℕ, zero, suc, ◌+◌, ◌<◌, ℤ, ◌≤ℤ◌, ◌<ℤ◌, List, [], ◌∷◌, ◌++◌, map, length, drop, take, filter, fold, inl, inr, ⊎_elim}
use Rattle.std.proofs.Common.{Option, Some, None, Bool, ◌||◌, true, false, not, refl, sym, ◌∙◌, ap, subst, arith, int_le, int_lt, slice_get, is_gt, ◌⊎◌}
use Rattle.std.proofs.Common.{if◌then◌else◌, OnOk, Ok, Err, Result, IfSome, IsSome, Ordering, Less, Equal, Greater}
use Rattle.std.specs.BTreeSet.{insert_key}
use Rattle.std.specs.Int.{int_min}
use Rattle.std.specs.List.{AllByRecursion}
use Rattle.std.specs.List.Sorted.{IsStrictlySortedBy}
use Rattle.std.specs.Result.{result_and}
use Rattle.std.specs.Ordering.{int_cmp, nat_cmp, match_ordering, on, MatchOrdering}
use Rattle.std.proofs.lemmas.Bool.{not_from_false, or_from}
use Rattle.std.proofs.lemmas.Cmp.{int_ranked}
use Rattle.std.proofs.lemmas.Int.{int_min_is, ints}
use Rattle.std.proofs.lemmas.List.{append_assoc, drop_more, map-append, take-append-drop, take_at}
use Rattle.std.proofs.lemmas.List.Elements.{All-from_recursion, recursion_from_All}
use Rattle.std.proofs.lemmas.Map.Lookups.{exact_pairs, exact_signed, exact_unsigned}
use Rattle.std.proofs.lemmas.Map.Views.{All-insert_key}
use Rattle.std.proofs.lemmas.Option.{get_or_from_slice_get, slice_get_within, same_Some as some-same}
use Rattle.ics_listing.specs.Listing.{IsIn}
use Rattle.ics_listing.specs.Rising.{IsBefore, Rises}
use Rattle.ics_listing.specs.declared.window.Window.{Window}
use Rattle.ics_listing.proofs.Cases.{int_lt_true, up-to-front}
use Rattle.ics_listing.proofs.ListingLemmas.{all-as, all-in, in-append, in-append_left, in-append_right, in-filter, Climbs}
use Rattle.ics_days.specs.NearPlaces.{AreAwaited, AreBelow, AreReached, AreTaken, BeginInTurn, WaitBelow}
use Rattle.ics_days.specs.NearPlaces.{ended_of, first_of, is_far, put_at, sooner_of, waiting_cmp}
use Rattle.ics_days.specs.Spans.{can_meet, first_at, first_in}
use Rattle.ics_days.specs.declared.near_places.WaitingPlace.{WaitingPlace}
use Rattle.ics_days.specs.declared.span.Span.{Span}
use Rattle.ics_zone.proofs.Cases.{false_int_le, false_int_lt, int_le_false, less_or_not_z}

-- What begins no earlier than a window ends, or ends before it begins, cannot meet it.
pub not-begun : (s : Span) (w : Window) → w.to ≤ℤ s.first → can_meet s w ≡ false
not-begun s w l = grind (arith, ints, l)

pub over : (s : Span) (w : Window) → s.last <ℤ w.from → can_meet s w ≡ false
over s w l = grind (arith, ints, l)

-- Places in the order in which their spans begin.
up-to : (a b : ℤ) → is_gt (int_cmp a b) ≡ false → a ≤ℤ b
up-to a b e = by (int_cmp a b) (int_ranked a b (int_cmp a b) refl) e
  where
    by : (c : Ordering) → MatchOrdering c (a <ℤ b) (a ≡ b) (b <ℤ a) → is_gt c ≡ false → a ≤ℤ b
    by Less m e = omega (arith, ints, m)
    by Equal m e = omega (arith, ints, m)
    by Greater m e = let f : is_gt Greater ≡ false = e in cc

pub climbs-in-turn : (xs : List WaitingPlace) → Climbs (on (λ x. x.first) int_cmp) xs → BeginInTurn xs
climbs-in-turn [] h = tt
climbs-in-turn (x ∷ xs) h = (
  all-as (λ y. is_gt (int_cmp x.first y.first) ≡ false) (λ y. x.first ≤ℤ y.first) xs (λ y e. up-to x.first y.first e) h.0,
  climbs-in-turn xs h.1,
)

-- none from one on begins before it
abbrev AreFrom : Option WaitingPlace → List WaitingPlace → Type 0
AreFrom None ys = Unit {0}
AreFrom (Some x) ys = AllByRecursion (λ z. x.first ≤ℤ z.first) ys

pub waiting-from : (xs : List WaitingPlace) (n : ℕ) {x : WaitingPlace} → BeginInTurn xs → slice_get xs n ≡ Some x
    → AllByRecursion (λ y. x.first ≤ℤ y.first) (drop n xs)
waiting-from [] n {x = x} h e = let f : None ≡ Some x = e in absurd cc
waiting-from (y ∷ ys) zero h e = subst (λ o. AreFrom o (y ∷ ys)) e (omega (arith, ints), h.0)
waiting-from (y ∷ ys) (suc n) h e = waiting-from ys n h.1 e

-- The earliest of an instant and of the beginnings of spans at places.
module _ (from : ℤ) (spans : List Span) where
  sooner-most : (least : ℤ) (o : Option Span) → sooner_of from least o ≤ℤ least
  sooner-most least o = by (ended_of o from)
    where
      by : (b : Bool) → (if b then least else int_min least (first_in o)) ≤ℤ least
      by true = omega (arith, ints)
      by false = omega (arith, ints, int_min_is least (first_in o))

  pub first-most : (least : ℤ) (near : List ℕ) → first_of from least spans near ≤ℤ least
  first-most least [] = omega (arith, ints)
  first-most least (k ∷ ks) =
      omega (arith, ints, first-most (sooner_of from least (slice_get spans k)) ks, sooner-most least (slice_get spans k))

  pub first-each : (least : ℤ) (near : List ℕ) (k : ℕ) (s : Span) → IsIn k near → slice_get spans k ≡ Some s
      → (s.last <ℤ from) ⊎ (first_of from least spans near ≤ℤ s.first)
  first-each least [] k s m at = absurd m
  first-each least (j ∷ js) k s m at =
      ⊎_elim (λ e. by (int_lt s.last from) refl (ap (slice_get spans) (sym e) ∙ at))
      (λ n. first-each (sooner_of from least (slice_get spans j)) js k s n at) m
    where
      by : (b : Bool) → int_lt s.last from ≡ b → slice_get spans j ≡ Some s → (s.last <ℤ from) ⊎ (first_of from least spans (j ∷ js) ≤ℤ s.first)
      by true t here = inl (int_lt_true s.last from t)
      by false t here =
          let rest = first-most (sooner_of from least (slice_get spans j)) js in
          let sooner : sooner_of from least (slice_get spans j) ≡ int_min least s.first =
          ap (sooner_of from least) here ∙ ap (λ b. if b then least else int_min least s.first) t in
          inr (omega (arith, ints, rest, sooner, int_min_is least s.first))

  -- by then nothing has begun
  pub none-begun : (near : List ℕ) (waiting : List WaitingPlace) (start : ℤ) {first : ℤ} (w : Window) → first ≡ first_of from start spans near
      → AllByRecursion (λ x. start ≤ℤ x.first) waiting → from ≤ℤ w.from → w.to ≤ℤ first → AreAwaited near waiting spans w
      → (k : ℕ) (s : Span) → slice_get spans k ≡ Some s → can_meet s w ≡ false
  none-begun near waiting start w is later begin end are k s at = elim (less_or_not_z s.first w.to) [
    | inr ends ↦ not-begun s w ends
    | inl begun ↦ elim (less_or_not_z s.last w.from) [
      | inl ended ↦ over s w ended
      | inr lasting ↦ are k s at
          (λ m. ⊎_elim (λ l. omega (arith, ints, l, begin, lasting)) (λ l. omega (arith, ints, l, is, end, begun)) (first-each start near k s m at))
          (λ h.
          let least = all-in (λ x. start ≤ℤ x.first) waiting later h.0 h.1 in
          omega (arith, ints, least, first-most start near, h.3, is, end, begun))
    ]
  ]

-- where none that waits begins before the window's end, all that can meet it is near
pub all-reached : (near : List ℕ) (rest : List WaitingPlace) (spans : List Span) (w : Window) → AllByRecursion (λ x. w.to ≤ℤ x.first) rest
    → AreAwaited near rest spans w → AreReached near spans w
all-reached near rest spans w later are k s at away = elim (less_or_not_z s.first w.to) [
  | inr ends ↦ not-begun s w ends
  | inl begun ↦ are k s at away
      (λ h. let least = all-in (λ x. w.to ≤ℤ x.first) rest later h.0 h.1 in omega (arith, ints, least, h.3, begun))
]

-- each of two lists, and of their sum
pub all-joined : {A : Type 0} (P : A → Type 0) (xs ys : List A) → AllByRecursion P xs → AllByRecursion P ys → AllByRecursion P (xs ++ ys)
all-joined P [] ys h k = k
all-joined P (x ∷ xs) ys h k = (h.0, all-joined P xs ys h.1 k)

all-parts : {A : Type 0} (P : A → Type 0) (xs ys : List A) → AllByRecursion P (xs ++ ys) → AllByRecursion P xs × AllByRecursion P ys
all-parts P [] ys h = (tt, h)
all-parts P (x ∷ xs) ys h = let r = all-parts P xs ys h.1 in ((h.0, r.0), r.1)

-- Of the places that are taken.
module _ {waiting rest : List WaitingPlace} {old new : List ℕ} (h : AreTaken waiting rest old new) where
  pub taken-more : (k : ℕ) → IsIn k old → IsIn k new
  taken-more k m = subst (IsIn k) (sym h.pushed) (in-append_left k old (map (λ (x : WaitingPlace). x.place) h.front) m)

  pub taken-split : (x : WaitingPlace) → IsIn x waiting → IsIn x rest ⊎ IsIn x.place new
  taken-split x m =
      ⊎_elim
      (λ n. inr (subst (IsIn x.place) (sym h.pushed)
      (in-append_right x.place old (map (λ (y : WaitingPlace). y.place) h.front) (place-in h.front x n))))
      inl (in-append x h.front rest (subst (IsIn x) h.parts m))
    where
      place-in : (xs : List WaitingPlace) (x : WaitingPlace) → IsIn x xs → IsIn x.place (map (λ (y : WaitingPlace). y.place) xs)
      place-in [] x m = absurd m
      place-in (y ∷ ys) x m = ⊎_elim (λ e. inl (ap (λ (z : WaitingPlace). z.place) e)) (λ n. inr (place-in ys x n)) m

  pub taken-below : (count : ℕ) → AreBelow count old → WaitBelow count waiting → AreBelow count new × WaitBelow count rest
  taken-below count below wait =
      let parts = all-parts (λ x. x.place < count) h.front rest (subst (WaitBelow count) h.parts wait) in
      (subst (AreBelow count) (sym h.pushed) (all-joined (λ k. k < count) old _ below (places h.front parts.0)), parts.1)
    where
      places : (xs : List WaitingPlace) → WaitBelow count xs → AreBelow count (map (λ (y : WaitingPlace). y.place) xs)
      places [] w = tt
      places (x ∷ xs) w = (w.0, places xs w.1)

  -- those from before stand before them
  pub taken-front : {back more : List WaitingPlace} {all : List ℕ} (n : ℕ) → AreTaken back more new all → length old ≡ n → take n all ≡ old
  taken-front n u e =
      let places = map (λ (x : WaitingPlace). x.place) in
      ap (take n) (u.pushed ∙ (ap (λ xs. xs ++ places u.front) h.pushed ∙ append_assoc old (places h.front) (places u.front)))
      ∙ take_at old (places h.front ++ places u.front) n e

-- What is put in its place among others is there, and so are they.
module _ {K : Type 0} (cmp : K → K → Ordering) where
  pub inserted : (ks : List K) (k x : K) → ((y : K) → cmp k y ≡ Equal → k ≡ y) → IsIn x ks ⊎ (x ≡ k) → IsIn x (insert_key cmp ks k)
  inserted [] k x same h = ⊎_elim (λ m. absurd m) inl h
  inserted (y ∷ ys) k x same h = by (inserted ys k x same) (cmp k y) refl
    where
      by : (IsIn x ys ⊎ (x ≡ k) → IsIn x (insert_key cmp ys k)) → (r : Ordering) → cmp k y ≡ r
          → IsIn x (match_ordering r (k ∷ y ∷ ys) (y ∷ ys) (y ∷ insert_key cmp ys k))
      by again Less e = ⊎_elim inr inl h
      by again Equal e = ⊎_elim (λ m. m) (λ i. inl (i ∙ same y e)) h
      by again Greater e = ⊎_elim (⊎_elim inl (λ n. inr (again (inl n)))) (λ i. inr (again (inr i))) h

-- Those that wait again are in the order of their beginnings.
pub begins-by : (x y : WaitingPlace) → is_gt (waiting_cmp x y) ≡ false → x.first ≤ℤ y.first
begins-by x y e = up-to x.first y.first (up-to-front (int_cmp x.first y.first) (nat_cmp x.place y.place) e)

pub waiting-same : (x y : WaitingPlace) → waiting_cmp x y ≡ Equal → x ≡ y
waiting-same x y e =
    let same = exact_pairs int_cmp nat_cmp exact_signed exact_unsigned (x.first, x.place) (y.first, y.place) e in
    λ i. record { first = (same i).0; place = (same i).1 }

-- Of places that were put back.
module _ (spans : List Span) (far : ℤ) where
  put-one : (b : Bool) (old : List WaitingPlace) (y x : WaitingPlace) → IsIn x old → IsIn x (if b then insert_key waiting_cmp old y else old)
  put-one true old y x m = inserted waiting_cmp old y x (waiting-same y) (inl m)
  put-one false old y x m = m

  pub put-old : (near : List ℕ) (old : List WaitingPlace) (x : WaitingPlace) → IsIn x old → IsIn x (fold (put_at spans far) old near)
  put-old [] old x m = m
  put-old (k ∷ ks) old x m = put-old ks (put_at spans far old k) x (put-one (int_le far (first_at spans k)) old _ x m)

  pub put-each : (s : Span) → far ≤ℤ s.first → (near : List ℕ) (old : List WaitingPlace) (k : ℕ) → slice_get spans k ≡ Some s → IsIn k near
      → IsIn (record { first = s.first; place = k }) (fold (put_at spans far) old near)
  put-each s later [] old k at m = absurd m
  put-each s later (j ∷ js) old k at m =
      ⊎_elim (λ e. put-old js (put_at spans far old j) _ (here (int_le far (first_at spans j)) refl e))
      (put-each s later js (put_at spans far old j) k at) m
    where
      one : WaitingPlace
      one = record { first = first_at spans j; place = j }

      here : (b : Bool) → int_le far (first_at spans j) ≡ b → k ≡ j
          → IsIn (record { first = s.first; place = k }) (if b then insert_key waiting_cmp old one else old)
      here true low e =
          subst (λ x. IsIn x (insert_key waiting_cmp old one)) (λ i. record { first = (ap (first_at spans) (sym e) ∙ ap first_in at) i; place = sym e i })
          (inserted waiting_cmp old one one (waiting-same one) (inr refl))
      here false low e =
          absurd (omega (arith, ints, int_le_false far (first_at spans j) low, later, ap (first_at spans) (sym e) ∙ ap first_in at))

  pub put-below : (count : ℕ) (near : List ℕ) (old : List WaitingPlace) → AreBelow count near → WaitBelow count old
      → WaitBelow count (fold (put_at spans far) old near)
  put-below count [] old below w = w
  put-below count (k ∷ ks) old below w = put-below count ks (put_at spans far old k) below.1 (by (int_le far (first_at spans k)))
    where
      one : WaitingPlace
      one = record { first = first_at spans k; place = k }

      by : (b : Bool) → WaitBelow count (if b then insert_key waiting_cmp old one else old)
      by true = recursion_from_All _ _ (All-insert_key waiting_cmp one (λ x. x.place < count) old (All-from_recursion _ old w) below.0)
      by false = w

-- what waits, and more beside it
pub awaited-more : (spans : List Span) (w : Window) (near : List ℕ) (waiting old new : List WaitingPlace) → ((x : WaitingPlace) → IsIn x old → IsIn x new)
    → AreAwaited near (waiting ++ old) spans w → AreAwaited near (waiting ++ new) spans w
awaited-more spans w near waiting old new more are k s at away none = are k s at away (λ h.
    none (h.0, ⊎_elim (in-append_left h.0 waiting new) (λ n. in-append_right h.0 waiting new (more h.0 n)) (in-append h.0 waiting old h.1), h.2, h.3))

-- What is near or waits when places are left behind or wait again, and those that begin are taken.
module _ (spans : List Span) (from far : ℤ) (near new : List ℕ) (waiting rest old : List WaitingPlace) {left one two : List ℕ} {put back : List WaitingPlace}
    (is : left ≡ filter (λ k. not (is_far spans k from far)) near) (kept : (k : ℕ) → IsIn k left → IsIn k one)
    (split : (x : WaitingPlace) → IsIn x waiting → IsIn x rest ⊎ IsIn x.place one) (all : put ≡ fold (put_at spans far) old near)
    (taken : AreTaken put back one two) (same : (k : ℕ) → IsIn k two → IsIn k new) where
  pub reach-awaited : (w : Window) → from ≤ℤ w.from → AreAwaited near (waiting ++ old) spans w → AreAwaited new (rest ++ back) spans w
  reach-awaited w begin are k s at away none = elim (less_or_not_z s.last w.from) [
    | inl ended ↦ over s w ended
    | inr lasting ↦ are k s at
        (λ m. elim (less_or_not_z s.first far) [
          | inr later ↦ again (record { first = s.first; place = k }) refl (omega (arith, ints))
              (subst (IsIn _) (sym all) (put-each spans far s later near old k at m))
          | inl soon ↦
              let here : is_far spans k from far ≡ false =
              (λ i. ended_of (at i) from || int_le far (first_in (at i)))
              ∙ or_from (int_lt s.last from) (int_le far s.first) (false_int_lt s.last from (omega (arith, ints, lasting, begin)))
              (false_int_le far s.first soon) in
              away (same k (taken-more taken k (kept k (subst (IsIn k) (sym is)
              (in-filter (λ j. not (is_far spans j from far)) k near (not_from_false (is_far spans k from far) here) m)))))
        ])
        (λ h. ⊎_elim
        (λ n. ⊎_elim (λ r. none (h.0, in-append_left h.0 rest back r, h.2, h.3))
        (λ p. away (subst (λ j. IsIn j new) h.2 (same h.0.place (taken-more taken h.0.place p)))) (split h.0 n))
        (λ n. again h.0 h.2 h.3 (subst (IsIn h.0) (sym all) (put-old spans far near old h.0 n))) (in-append h.0 waiting old h.1))
  ]
    where
      again : (x : WaitingPlace) → x.place ≡ k → x.first ≤ℤ s.first → IsIn x put → ⊥
      again x p f m =
          ⊎_elim (λ r. none (x, in-append_right x rest back r, p, f)) (λ q. away (subst (λ j. IsIn j new) p (same x.place q))) (taken-split taken x m)

pub both-ok : {T U E P Q R : Type 0} (a : Result T E) (b : Result U E) → (P → Q → R) → OnOk a P → OnOk b Q → OnOk (result_and a b) R
both-ok (Ok x) (Ok y) f p q = f p q
both-ok (Ok x) (Err e) f p q = tt
both-ok (Err e) b f p q = tt

pub all-cut : {A : Type 0} (P : A → Type 0) (n : ℕ) (xs : List A) → AllByRecursion P xs → AllByRecursion P (take n xs) × AllByRecursion P (drop n xs)
all-cut P n xs h = all-parts P (take n xs) (drop n xs) (subst (AllByRecursion P) (sym (take-append-drop n xs)) h)

-- one more
pub taken-one : {waiting rest : List WaitingPlace} {old now new : List ℕ} {x : WaitingPlace} → AreTaken waiting (x ∷ rest) old now
    → new ≡ now ++ x.place ∷ [] → AreTaken waiting rest old new
taken-one {rest = rest} {old = old} {x = x} h is = record {
  front = h.front ++ x ∷ [];
  parts = h.parts ∙ sym (append_assoc h.front (x ∷ []) rest);
  pushed =
      is ∙ (ap (λ xs. xs ++ x.place ∷ []) h.pushed
      ∙ (append_assoc old (map (λ (y : WaitingPlace). y.place) h.front) (x.place ∷ [])
      ∙ ap (λ xs. old ++ xs) (sym (map-append (λ (y : WaitingPlace). y.place) h.front (x ∷ [])))));
}

-- the first of those from one on
pub next-waits : (waiting : List WaitingPlace) (next : ℕ) {x : WaitingPlace} → slice_get waiting next ≡ Some x
    → drop next waiting ≡ x ∷ drop (next + 1) waiting
next-waits waiting next {x = x} at =
    drop_more waiting next x (slice_get_within waiting next x at)
    ∙ ap (λ y. y ∷ drop (next + 1) waiting) (get_or_from_slice_get waiting next x x at)

-- the first of those that wait again, which is dropped
pub next-returned : {returned rest : List WaitingPlace} {x : WaitingPlace} (dropped : Option WaitingPlace) → slice_get returned 0 ≡ Some x
    → (0 < length returned → IsSome dropped) → IfSome dropped (λ k. returned ≡ k ∷ rest) → returned ≡ x ∷ rest
next-returned {returned = []} None at some is = let f : None ≡ Some _ = at in absurd cc
next-returned {returned = y ∷ ys} None at some is = let f : false ≡ true = some (omega arith) in absurd cc
next-returned {rest = rest} {x = x} (Some k) at some is = is ∙ ap (λ z. z ∷ rest) (some-same k x (sym (ap (λ zs. slice_get zs 0) is) ∙ at))

-- What is sorted strictly rises.
pub strictly-rises : {A : Type 0} (R : A → A → Ordering) (xs : List A) → IsStrictlySortedBy R xs → Rises R xs
unfolding IsStrictlySortedBy
strictly-rises R [] h = tt
strictly-rises {A = A} R (x ∷ xs) h = (each xs h.0, strictly-rises R xs h.1)
  where
    each : (ys : List A) → AllByRecursion (λ y. R x y ≡ Less) ys → IsBefore R x ys
    each [] h = tt
    each (y ∷ ys) h = (h.0, each ys h.1)
