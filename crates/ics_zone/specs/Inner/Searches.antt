-- What the searches below a number find.
use Rattle.std.proofs.Common.{◌≡◌, ℕ, zero, suc, ◌<◌, ◌⊎◌, refl, arith, Option, Some, None, MatchOption, ℤ, pos, negsuc, ◌≤ℤ◌}
use Rattle.std.proofs.lemmas.Bool.Decides.{nat_tests}
use Rattle.std.proofs.lemmas.Int.{ints}
use Rattle.ics_zone.specs.ZoneOffsets.{last_below, first_below, natural}

-- f gives x at the greatest number below n at which it gives something
pub record IsLastGiven {A : Type 0} (n : ℕ) (f : ℕ → Option A) (x : A) : Type 0 where
  pub place : ℕ
  pub in_bound : place < n
  pub gives : f place ≡ Some x
  pub later : (j : ℕ) → place < j → j < n → f j ≡ None

-- the same at the least
pub record IsFirstGiven {A : Type 0} (n : ℕ) (f : ℕ → Option A) (x : A) : Type 0 where
  pub place : ℕ
  pub in_bound : place < n
  pub gives : f place ≡ Some x
  pub earlier : (j : ℕ) → j < place → f j ≡ None

abbrev pub NoneGiven : {A : Type 0} → ℕ → (ℕ → Option A) → Type 0
NoneGiven n f = (j : ℕ) → j < n → f j ≡ None

below_or_at : (a b : ℕ) → a < suc b → (a < b) ⊎ (a ≡ b)
below_or_at a b h = grind (arith, nat_tests)

module _ {A : Type 0} (f : ℕ → Option A) where
  pub last_below-is : (n : ℕ) → MatchOption (last_below n f) (NoneGiven n f) (IsLastGiven n f)
  unfolding last_below
  last_below-is zero = λ j h. absurd (omega arith)
  last_below-is (suc n) = by (f n) (last_below n f) refl (last_below-is n)
    where
      by : (now old : Option A) → f n ≡ now → MatchOption old (NoneGiven n f) (IsLastGiven n f)
          → MatchOption (elim now [ Some x ↦ Some x | None ↦ old ]) (NoneGiven (suc n) f) (IsLastGiven (suc n) f)
      by now old is before = grind (arith, below_or_at)

  pub first_below-is : (n : ℕ) → MatchOption (first_below n f) (NoneGiven n f) (IsFirstGiven n f)
  unfolding first_below
  first_below-is zero = λ j h. absurd (omega arith)
  first_below-is (suc n) = by (first_below n f) (f n) refl (first_below-is n)
    where
      by : (old now : Option A) → f n ≡ now → MatchOption old (NoneGiven n f) (IsFirstGiven n f)
          → MatchOption (elim old [ Some x ↦ Some x | None ↦ now ]) (NoneGiven (suc n) f) (IsFirstGiven (suc n) f)
      by old now is before = grind (arith, below_or_at)

-- the number of a count that is not negative
pub natural-is : (z : ℤ) → pos 0 ≤ℤ z → pos (natural z) ≡ z
natural-is (pos n) h = refl
natural-is (negsuc n) h = absurd (omega (arith, ints))
