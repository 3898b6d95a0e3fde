use Rattle.std.proofs.Common.{◌≡◌, ◌<◌, ◌≤◌, ◌&&◌, ◌∙◌, ℕ, ℤ, ◌≤ℤ◌, ◌<ℤ◌, Bool, true, false, List, length, get_or, inl, inr, ap, subst, sym, refl, rules, arith, int_le, int_lt, pos, w64, SFits}
use Rattle.std.specs.List.{list_any}
use Rattle.std.specs.List.Sorted.{IsPartitionedBy}
use Rattle.std.proofs.lemmas.Bool.{cases_lt}
use Rattle.std.proofs.lemmas.Int.{ints, to_z-of_z}
use Rattle.std.proofs.lemmas.List.{get_or_default}
use Rattle.std.proofs.lemmas.List.Folds.{list_any_none}
use Rattle.std.proofs.lemmas.List.Sorted.{IsPartitionPoint-from_clause}
use Rattle.ics_zone.proofs.Cases.{false_int_lt, int_le_false, int_le_true, true_int_le, true_int_lt}
use Rattle.ics_zone.proofs.ListingLemmas.{in_order}
use Rattle.ics_zone.specs.Inner.Latest.{IsInOrder}
use Rattle.ics_starts.specs.Found.{is_between}
use Rattle.ics_starts.proofs.ExclusionLemmas.{any-at}
use Rattle.ics_starts.proofs.listed.has_between.Goals as goal

parted : (xs : List ℤ) (t : ℤ) → IsInOrder xs → IsPartitionedBy (λ s. int_le s t) xs
parted xs t up i j d l h e = let later = up i j d l h in grind (arith, ints, int_le_true, true_int_le)

not-below : (a b : ℤ) → int_lt a b ≡ false → b ≤ℤ a
not-below a b e = grind (arith, ints)

and-none : (a b : Bool) → b ≡ false → (a && b) ≡ false
and-none true b e = e
and-none false b e = refl

-- none is between two instants, if those before a place are not after the first, and those from there on not before the second
none-between : (from to : ℤ) (xs : List ℤ) (k : ℕ) → ((j : ℕ) (d : ℤ) → j < k → j < length xs → get_or xs j d ≤ℤ from)
    → ((j : ℕ) (d : ℤ) → k ≤ j → j < length xs → to ≤ℤ get_or xs j d) → list_any (is_between from to) xs ≡ false
none-between from to xs k low high = list_any_none (is_between from to) xs (λ j d l. elim (cases_lt j k) [
  | inl early ↦ ap (λ b. b && int_lt (get_or xs j d) to) (false_int_lt from (get_or xs j d) (low j d early l))
  | inr late ↦ and-none (int_lt from (get_or xs j d)) _ (false_int_lt (get_or xs j d) to (high j d late l))
])

-- a place of a list in order up to which all are not after an instant, and from which on all are
record IsPlace (from : ℤ) (xs : List ℤ) (k : ℕ) : Type 0 where
  low : (j : ℕ) (d : ℤ) → j < k → j < length xs → get_or xs j d ≤ℤ from
  high : (j : ℕ) (d : ℤ) → k ≤ j → j < length xs → from <ℤ get_or xs j d

-- so the one there tells whether one is between that instant and another
one-there : (from to : ℤ) (xs : List ℤ) (k : ℕ) (x : ℤ) → IsInOrder xs → IsPlace from xs k → k < length xs → x ≡ get_or xs k x
    → int_lt x to ≡ list_any (is_between from to) xs
one-there from to xs k x up place l is = by (int_lt x to) refl
  where
    past : from <ℤ x
    past = subst (λ y. from <ℤ y) (sym is) (place.high k x (omega arith) l)

    by : (b : Bool) → int_lt x to ≡ b → int_lt x to ≡ list_any (is_between from to) xs
    by true e =
        e ∙ sym (any-at (is_between from to) xs k x l is (ap (λ b. b && int_lt x to) (true_int_lt from x past) ∙ e))
    by false e =
        e ∙ sym (none-between from to xs k place.low (λ j d late within.
        let on = subst (λ y. y ≤ℤ get_or xs j x) (sym is) (up k j x late within) in
        subst (λ y. to ≤ℤ y) (get_or_default xs j x d within) (omega (arith, ints, on, not-below x to e))))

pub returns-then-past-instants : goal.returns-then-past-instants
returns-then-past-instants c =
    let xs = c.args.instants.now in
    let from = c.args.from in
    let point = IsPartitionPoint-from_clause (λ s. int_le s from) _ _ c.partition_point-past.ensures.partitioned (parted xs from (in_order xs c.requires))
    (λ a r q k. search rules) in
    sym (none-between from c.args.to xs c.partition_point-past.result (λ j d l h. int_le_true _ _ (point.0 j d (omega arith) l))
    (λ j d l h. absurd (omega (arith, l, h, c.if-past-instants.true))))

pub returns : goal.returns
returns c =
    let xs = c.args.instants.now in
    let from = c.args.from in
    let k = c.partition_point-past.result in
    let point = IsPartitionPoint-from_clause (λ s. int_le s from) _ _ c.partition_point-past.ensures.partitioned (parted xs from (in_order xs c.requires))
    (λ a r q k. search rules) in
    let x = get_or xs k (pos 0) in
    let fits : SFits w64 x = search rules in
    let to : SFits w64 c.args.to = c.ranges.to in
    let there : k < length xs = omega (arith, c.partition_point-past.ensures.bound, c.if-past-instants.false) in
    (λ i. int_lt (to_z-of_z w64 x fits i) (to_z-of_z w64 c.args.to to i))
    ∙ one-there from c.args.to xs k x (in_order xs c.requires)
    (record { low = λ j d l h. int_le_true _ _ (point.0 j d (omega arith) l); high = λ j d l h. int_le_false _ _ (point.1 j d l h) }) there
    (get_or_default xs k (pos 0) x there)
