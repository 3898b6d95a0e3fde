-- Facts about tests and orders that several proofs cite.
use Rattle.std.proofs.Common.{◌≡◌, ℕ, ◌*◌, ◌==◌, ◌<◌, ◌≤◌, ◌⊎◌, Bool, true, false, ◌&&◌, arith, inl, inr, ◌||◌, refl}
use Rattle.std.proofs.lemmas.Bool.Decides.{nat_tests}

pub keep_true : (b : Bool) → (b && true) ≡ b
keep_true b = grind arith

pub positive : (a b : ℕ) → 1 ≤ a → 1 ≤ b → 1 ≤ a * b
positive a b h l = grind (arith, nat_tests)

pub by_order : (a b : ℕ) → ((a < b) ⊎ (b < a)) ⊎ (a ≡ b)
by_order a b = grind arith

pub unequal : (a b : ℕ) → (a < b) ⊎ (b < a) → (a == b) ≡ false
unequal a b h = grind (arith, nat_tests)

pub iff : (a b : Bool) → (a ≡ true → b ≡ true) → (b ≡ true → a ≡ true) → a ≡ b
iff a b p q = grind arith

pub and_assoc : (a b c : Bool) → (a && b && c) ≡ (a && (b && c))
and_assoc a b c = grind arith

pub swapped : (a c b : Bool) → (c ≡ true → a ≡ b) → (a && c) ≡ (c && b)
swapped a c b h = grind arith

pub and_true : {a b : Bool} → a && b ≡ true → (a ≡ true) × (b ≡ true)
and_true {a = true} h = (refl, h)
and_true {a = false} h = absurd (cc)

pub or_true : {a b : Bool} → a || b ≡ true → (a ≡ true) ⊎ (b ≡ true)
or_true {a = true} h = inl refl
or_true {a = false} h = inr h
