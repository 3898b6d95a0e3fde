-- The merge of lists whose keys rise. Each key occurs once; of equal keys, the entry of the first list counts.
use Rattle.std.specs.Prelude.{◌≢◌, ◌⊎◌, ⊤, List, [], ◌∷◌}
use Rattle.ics_listing.specs.Listing.{IsIn}
use Rattle.std.specs.declared.cmp.Ordering.{Ordering}
use Rattle.std.specs.declared.cmp.Ordering.TheVariants.{Less, Equal, Greater}

-- a value for each answer of a comparison
abbrev pub by_order : {B : Type 0} → Ordering → B → B → B → B
by_order Less a b c = a
by_order Equal a b c = b
by_order Greater a b c = c

-- x put in its place in a list; it replaces an entry with its key
abbrev pub put : {A : Type 0} → (A → A → Ordering) → A → List A → List A
put R x [] = x ∷ []
put R x (y ∷ ys) = by_order (R x y) (x ∷ y ∷ ys) (x ∷ ys) (y ∷ put R x ys)

-- the entries of both lists; of equal keys, that of the first
abbrev pub union : {A : Type 0} → (A → A → Ordering) → List A → List A → List A
union R [] ys = ys
union R (x ∷ xs) ys = put R x (union R xs ys)

-- the entries of all the lists; of equal keys, that of the first list that has it
abbrev pub merged : {A : Type 0} → (A → A → Ordering) → List (List A) → List A
merged R [] = []
merged R (xs ∷ xss) = union R xs (merged R xss)

-- the list without its first entry, if that has x's key
abbrev pub cut : {A : Type 0} → (A → A → Ordering) → A → List A → List A
cut R x [] = []
cut R x (y ∷ ys) = by_order (R x y) (y ∷ ys) ys (y ∷ ys)

-- no entry of the list has x's key
abbrev pub HasNoKey : {A : Type 0} → (A → A → Ordering) → A → List A → Type 0
HasNoKey R x [] = ⊤
HasNoKey R x (y ∷ ys) = (R x y ≢ Equal) × HasNoKey R x ys

-- x is in one of the lists, and no list before that has its key
abbrev pub IsFromFirst : {A : Type 0} → (A → A → Ordering) → A → List (List A) → Type 0
IsFromFirst R x [] = ⊥
IsFromFirst R x (ys ∷ yss) = IsIn x ys ⊎ (HasNoKey R x ys × IsFromFirst R x yss)
