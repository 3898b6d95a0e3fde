-- Case distinctions of options, tests and orders.
use lib.Signed.{mag}
use Rattle.std.proofs.Common.{int_le, int_lt, ◌<ℤ◌}
use Rattle.std.proofs.Common.{◌≡◌, ℕ, suc, ◌<◌, ◌≤◌, ℤ, ◌⊎◌, true, false, Option, Some, None, option_map, refl, sym, arith, w64, to_z, of_z, int_eq}
use Rattle.std.proofs.Common.{is_eq, is_gt, Ordering, Less, Equal, Greater, IfOk, Result, Ok, Err}
use Rattle.std.specs.Ordering.{ordering_then}
use Rattle.std.proofs.lemmas.Int.{ints}
pub use Rattle.std.proofs.lemmas.Bool.{not-true}
pub use Rattle.std.proofs.lemmas.Option.{same_Some as some-same}

-- what is mapped to something is something
pub mapped-some : {X Y : Type 0} (f : X → Y) (o : Option X) (y : Y) → option_map f o ≡ Some y → (x : X) × (o ≡ Some x) × (y ≡ f x)
mapped-some f None y h = let g : None ≡ Some y = h in absurd cc
mapped-some f (Some x) y h = (x, refl, some-same y (f x) (sym h))

pub equal-true : (a b : ℤ) → int_eq a b ≡ true → a ≡ b
equal-true a b e = grind (arith, ints)

pub true-equal : (a b : ℤ) → a ≡ b → int_eq a b ≡ true
true-equal a b e = grind (arith, ints)

pub eq-Equal : (c : Ordering) → is_eq c ≡ true → c ≡ Equal
eq-Equal Equal e = refl
eq-Equal _ e = let f : false ≡ true = e in cc

pub up-to-front : (c d : Ordering) → is_gt (ordering_then c d) ≡ false → is_gt c ≡ false
up-to-front Greater d h = h
up-to-front _ d h = refl

pub less-by : (c : Ordering) → is_gt c ≡ false → is_eq c ≡ false → c ≡ Less
less-by Less g e = refl
less-by _ g e = cc

-- by what a comparison answers, and by what an option is
pub by-cases : {P : Type 0} (c : Ordering) → (c ≡ Less → P) → (c ≡ Equal → P) → (c ≡ Greater → P) → P
by-cases Less f g h = f refl
by-cases Equal f g h = g refl
by-cases Greater f g h = h refl

pub option-cases : {X P : Type 0} (o : Option X) → (o ≡ None → P) → ((x : X) → o ≡ Some x → P) → P
option-cases None f g = f refl
option-cases (Some x) f g = g x refl

pub below-or-last : (m n : ℕ) → m < suc n → (m < n) ⊎ (m ≡ n)
below-or-last m n l = grind arith

pub here-or-later : (from to : ℕ) → from ≤ to → (from ≡ to) ⊎ (from < to)
here-or-later from to h = grind arith

-- An instant that fits in an i64 is read back.
pub moment-back : (t : ℤ) → mag t < 9_223_372_036_854_775_808 → to_z w64 (of_z w64 t) ≡ t
moment-back t l = omega (arith, ints)

-- what holds of an answer in two ways
pub if-both : {T E : Type 0} {R : T → Type 0} (r : Result T E) (P Q : T → Type 0) → ((x : T) → P x → Q x → R x) → IfOk r P → IfOk r Q → IfOk r R
if-both (Ok x) P Q f p q = f x p q
if-both (Err e) P Q f p q = tt

pub int_lt_true : (a b : ℤ) → int_lt a b ≡ true → a <ℤ b
int_lt_true a b h = grind (arith, ints)

pub int_le_false : (a b : ℤ) → int_le a b ≡ false → b <ℤ a
int_le_false a b h = grind (arith, ints)
