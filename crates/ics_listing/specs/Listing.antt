-- The listing: the one list that has exactly these entries and whose keys rise strictly.
use Rattle.std.specs.Prelude.{◌≡◌, List, [], ◌∷◌, ◌⊎◌, ◌↔◌}
use Rattle.std.specs.declared.cmp.Ordering.{Ordering}
use Rattle.ics_listing.specs.Rising.{Rises}

-- x is in the list
abbrev pub IsIn : {A : Type 0} → A → List A → Type 0
IsIn x [] = ⊥
IsIn x (y ∷ ys) = (x ≡ y) ⊎ IsIn x ys

-- the list has exactly those for which P is true, and its keys rise strictly
pub record IsListing {A : Type 0} (R : A → A → Ordering) (P : A → Type 0) (list : List A) : Type 0 where
  pub rises : Rises R list
  pub exact : (x : A) → IsIn x list ↔ P x
