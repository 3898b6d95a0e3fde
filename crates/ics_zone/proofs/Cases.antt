-- Case distinctions of orders and of tests.
use Rattle.std.proofs.Common.{◌≡◌, ℕ, ◌<◌, ◌≤◌, ◌⊎◌, true, false, arith, ℤ, ◌<ℤ◌, ◌≤ℤ◌, int_lt, int_le}
use Rattle.std.proofs.lemmas.Int.{ints}
use Rattle.std.proofs.lemmas.Bool.Decides.{nat_tests}

pub less_or_not_z : (a b : ℤ) → (a <ℤ b) ⊎ (b ≤ℤ a)
less_or_not_z a b = grind (arith, ints)

pub below_or_at : (a b : ℕ) → a ≤ b → (a < b) ⊎ (a ≡ b)
below_or_at a b h = grind (arith, nat_tests)

pub int_lt_true : (a b : ℤ) → int_lt a b ≡ true → a <ℤ b
int_lt_true a b h = grind (arith, ints)

pub true_int_lt : (a b : ℤ) → a <ℤ b → int_lt a b ≡ true
true_int_lt a b h = grind (arith, ints)

pub false_int_lt : (a b : ℤ) → b ≤ℤ a → int_lt a b ≡ false
false_int_lt a b h = grind (arith, ints)

pub int_le_true : (a b : ℤ) → int_le a b ≡ true → a ≤ℤ b
int_le_true a b h = grind (arith, ints)

pub int_le_false : (a b : ℤ) → int_le a b ≡ false → b <ℤ a
int_le_false a b h = grind (arith, ints)

pub true_int_le : (a b : ℤ) → a ≤ℤ b → int_le a b ≡ true
true_int_le a b h = grind (arith, ints)

pub false_int_le : (a b : ℤ) → b <ℤ a → int_le a b ≡ false
false_int_le a b h = grind (arith, ints)
