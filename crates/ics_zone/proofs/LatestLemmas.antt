-- The last of a set of instants, and the next.
use Rattle.std.proofs.Common.{◌≡◌, ℕ, ◌<◌, ◌-◌, ◌⊎◌, inl, inr, sym, arith, List, length, get_or, Contains, Option, Some, None, MatchOption, ℤ, ◌<ℤ◌, ◌≤ℤ◌}
use Rattle.std.proofs.lemmas.Bool.{cases_lt}
use Rattle.std.specs.Int.{int_max}
use Rattle.std.proofs.lemmas.Int.{ints}
use Rattle.std.proofs.lemmas.List.{get_or_default}
use Rattle.ics_zone.specs.declared.onsets.Onsets.{Onsets}
use Rattle.ics_zone.specs.Inner.OnsetSets.{IsKeptAt, Has}
use Rattle.ics_zone.specs.Inner.Latest.{IsInOrder, IsPassed, IsLast, IsLastOf, IsLastAfter}
use Rattle.ics_zone.proofs.Cases.{less_or_not_z}

module _ (list : List ℤ) (up : IsInOrder list) (t : ℤ) (k : ℕ) (passed : IsPassed list t k) where
  -- none of a list is passed, and its last that is
  pub none_listed : k ≡ 0 → (u : ℤ) → Contains list u → t <ℤ u
  none_listed none u h = grind (arith, ints)

  pub last_listed : 0 < k → (s : ℤ) → s ≡ get_or list (k - 1) s → IsLast (Contains list) t s
  last_listed some s is =
      let inside : k - 1 < length list = omega arith in
      let early = passed.before (k - 1) s (omega arith) (omega arith) in
      record {
        is = (k - 1, inside, sym is);
        not_after = omega (arith, ints);
        last = λ u h l. let same = get_or_default list (k - 1) u s inside in grind (arith, ints, cases_lt);
      }

  -- the first that is not passed
  pub next_listed : (s : ℤ) → k < length list → s ≡ get_or list k s → (u : ℤ) → Contains list u → t <ℤ u → s ≤ℤ u
  next_listed s inside is u h l = let same = get_or_default list k u s inside in grind (arith, ints, cases_lt)

-- the last of the listed onsets and of those of the rule
module _ (s : Onsets) {t : ℤ} where
  pub last_of_both : {a b m : ℤ} → IsLast (Contains s.listed.items) t a → IsLast (IsKeptAt s) t b → m ≡ int_max a b → IsLast (Has s) t m
  last_of_both x y is = grind (arith, ints, less_or_not_z)

  pub last_of_first : {a : ℤ} → IsLast (Contains s.listed.items) t a → ((u : ℤ) → IsKeptAt s u → t <ℤ u) → IsLast (Has s) t a
  last_of_first x none = grind (arith, ints)

  -- the rule may have none but before an instant
  pub first_after : {after a : ℤ} → IsLast (Contains s.listed.items) t a → after <ℤ a → ((u : ℤ) → IsKeptAt s u → u ≤ℤ t → u ≤ℤ after) → IsLast (Has s) t a
  first_after x late none = grind (arith, ints)

pub second_after : (a b : ℤ → Type 0) (after t : ℤ) (second : Option ℤ) → ((u : ℤ) → a u → u ≤ℤ t → u ≤ℤ after) → IsLastAfter b after t second
    → MatchOption second ((u : ℤ) → (a u ⊎ b u) → u ≤ℤ t → u ≤ℤ after) (IsLast (λ v. a v ⊎ b v) t)
second_after a b after t None none x = λ u h l. elim h [ inl first ↦ none u first l | inr own ↦ x u own l ]
second_after a b after t (Some s) none x = record {
  is = inr x.0.is;
  not_after = x.0.not_after;
  last = λ u h l. elim h [
    | inl first ↦ (let low = none u first l in let late = x.1 in omega (arith, ints))
    | inr own ↦ x.0.last u own l
  ];
}

pub last_of_second : {t : ℤ} (a b : ℤ → Type 0) (second : Option ℤ) → ((u : ℤ) → a u → t <ℤ u) → IsLastOf b t second → IsLastOf (λ v. a v ⊎ b v) t second
last_of_second a b second none x = grind (arith, ints)
