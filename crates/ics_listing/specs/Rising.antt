-- Lists whose keys rise strictly, under any order of keys.
use Rattle.std.specs.Prelude.{◌≡◌, List, [], ◌∷◌, ⊤}
use Rattle.std.specs.Coded.{×_prop, Unit-prop}
use Rattle.std.specs.Ordering.{Ordering-set}
use Rattle.std.specs.declared.cmp.Ordering.{Ordering}
use Rattle.std.specs.declared.cmp.Ordering.TheVariants.{Less}

-- x comes before each entry of the list
abbrev pub IsBefore : {A : Type 0} → (A → A → Ordering) → A → List A → Type 0
IsBefore R x [] = ⊤
IsBefore R x (y ∷ ys) = (R x y ≡ Less) × IsBefore R x ys

-- each entry comes before all that follow it
abbrev pub Rises : {A : Type 0} → (A → A → Ordering) → List A → Type 0
Rises R [] = ⊤
Rises R (x ∷ xs) = IsBefore R x xs × Rises R xs

-- each has at most one proof
pub before-prop : {A : Type 0} (R : A → A → Ordering) (x : A) (xs : List A) → IsProp (IsBefore R x xs)
before-prop R x [] = Unit-prop
before-prop R x (y ∷ ys) = ×_prop (Ordering-set (R x y) Less) (before-prop R x ys)

pub Rises-prop : {A : Type 0} (R : A → A → Ordering) (xs : List A) → IsProp (Rises R xs)
Rises-prop R [] = Unit-prop
Rises-prop R (x ∷ xs) = ×_prop (before-prop R x xs) (Rises-prop R xs)
