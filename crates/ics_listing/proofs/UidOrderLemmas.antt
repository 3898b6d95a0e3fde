-- The order of the UIDs that leads give, where their places tell it.
use Rattle.std.proofs.Common.{◌≡◌, ℕ, zero, suc, ◌<◌, ◌≤◌, inl, inr, List, [], ◌∷◌, length, get_or, set, map, Option, Some, None, sym, ◌∙◌, ap, subst}
use Rattle.std.proofs.Common.{arith, slice_index_or, option_map, Ordering}
use Rattle.std.proofs.lemmas.List.{get_or-map, get_or_past}
use Rattle.ics_listing.specs.declared.occurrence.Occurrence.{Occurrence}
use Rattle.ics_listing.specs.Entry.{Entry, entry_of}
use Rattle.ics_listing.specs.Leads.{listed}
use Rattle.ics_listing.specs.Listing.{IsIn}
use Rattle.ics_listing.specs.Uids.{AreHeadsSorted, AreSortedFrom, IsLastSorted, IsPlaceOrder, IsUidOrder}

-- no list stands past all of them
pub none-sorted : (from : ℕ) (lists : List (List Entry)) → length lists ≤ from → AreSortedFrom from lists
none-sorted from lists l i a m j b low high n = absurd (subst (IsIn a) (get_or_past lists i [] (omega arith)) m)

-- what the places of two heads tell is the order of their UIDs
module _ (from i j : ℕ) (heads : List (Option Entry)) where
  pub head-order : {a b : Entry} (order : Option Ordering) → AreHeadsSorted from heads
      → slice_index_or heads i None ≡ Some a → slice_index_or heads j None ≡ Some b → IsPlaceOrder from i j order → IsUidOrder order a b
  head-order None h p q k = tt
  head-order {a = a} {b = b} (Some order) h p q k = k.1.1 ∙ sym (h i j a b k.0 k.1.0 p q)

-- where no list has more than it had
pub record AreFewer (old new : List (List Entry)) : Type 0 where
  had : (i : ℕ) (a : Entry) → IsIn a (get_or new i []) → IsIn a (get_or old i [])

module _ {old new : List (List Entry)} (fewer : AreFewer old new) (from : ℕ) where
  pub fewer-sorted : AreSortedFrom from old → AreSortedFrom from new
  fewer-sorted h i a m j b low high n = h i a (fewer.had i a m) j b low high (fewer.had j b n)

  pub fewer-last : (i : ℕ) (last : Option Occurrence) → IsLastSorted from i last old → IsLastSorted from i last new
  fewer-last i None h = tt
  fewer-last i (Some o) h = λ j b low high n. h j b low high (fewer.had j b n)

headed-in : (head : Option Occurrence) (rest : List Entry) (a : Entry) → option_map entry_of head ≡ Some a → IsIn a (listed head rest)
headed-in None rest a e = let no : None ≡ Some a = e in absurd cc
headed-in (Some o) rest a e = inl cc

rest-in : (head : Option Occurrence) (rest : List Entry) (a : Entry) → IsIn a rest → IsIn a (listed head rest)
rest-in None rest a m = m
rest-in (Some o) rest a m = inr m

-- what is held at a place
pub held-at : {X : Type 0} (head : X → Option Occurrence) (xs : List X) (i : ℕ) (d : X) {o : Option Occurrence} → i < length xs → head (get_or xs i d) ≡ o →
    get_or (map (λ y. option_map entry_of (head y)) xs) i None ≡ option_map entry_of o
held-at head xs i d l e = get_or-map (λ y. option_map entry_of (head y)) xs i d None l ∙ ap (option_map entry_of) e

module _ {X : Type 0} (head : X → Option Occurrence) (rest : X → List Entry) where
  -- what a lead holds stands in its list
  pub head-in : (xs : List X) (i : ℕ) (a : Entry) → get_or (map (λ x. option_map entry_of (head x)) xs) i None ≡ Some a →
      IsIn a (get_or (map (λ x. listed (head x) (rest x)) xs) i [])
  head-in [] i a e = let no : None ≡ Some a = e in absurd cc
  head-in (x ∷ xs) zero a e = headed-in (head x) (rest x) a e
  head-in (x ∷ xs) (suc i) a e = head-in xs i a e

  pub heads-sorted : (from : ℕ) (xs : List X) → AreSortedFrom from (map (λ x. listed (head x) (rest x)) xs) →
      AreHeadsSorted from (map (λ x. option_map entry_of (head x)) xs)
  heads-sorted from xs h i j a b low high p q = h i a (head-in xs i a p) j b low high (head-in xs j b q)

  -- what the places of the last source and of a lead tell
  module _ (from i j : ℕ) (xs : List X) (last : Occurrence) where
    pub last-order : {b : Entry} (order : Option Ordering) → IsLastSorted from i (Some last) (map (λ x. listed (head x) (rest x)) xs)
        → get_or (map (λ x. option_map entry_of (head x)) xs) j None ≡ Some b → IsPlaceOrder from i j order → IsUidOrder order (entry_of last) b
    last-order None h e k = tt
    last-order {b = b} (Some order) h e k = k.1.1 ∙ sym (h j b k.0 k.1.0 (head-in xs j b e))

  -- where one lead has drawn, or could not
  module _ (old new : X) where
    module _ (f : (a : Entry) → IsIn a (listed (head new) (rest new)) → IsIn a (listed (head old) (rest old))) where
      fewer-set : (xs : List X) (lead : ℕ) → old ≡ get_or xs lead old → (i : ℕ) (a : Entry)
          → IsIn a (get_or (map (λ x. listed (head x) (rest x)) (set xs lead new)) i []) → IsIn a (get_or (map (λ x. listed (head x) (rest x)) xs) i [])
      fewer-set (x ∷ xs) zero read zero a m = subst (λ y. IsIn a (listed (head y) (rest y))) read (f a m)
      fewer-set (x ∷ xs) (suc lead) read (suc i) a m = fewer-set xs lead read i a m
      fewer-set _ _ read _ a m = m

    module _ (xs : List X) (lead : ℕ) (read : old ≡ get_or xs lead old) where
      pub fewer-drawn-in : listed (head new) (rest new) ≡ rest old
          → AreFewer (map (λ x. listed (head x) (rest x)) xs) (map (λ x. listed (head x) (rest x)) (set xs lead new))
      fewer-drawn-in drawn = record { had = fewer-set (λ a m. rest-in (head old) (rest old) a (subst (IsIn a) drawn m)) xs lead read }

      pub fewer-kept-in : head new ≡ head old → rest new ≡ rest old
          → AreFewer (map (λ x. listed (head x) (rest x)) xs) (map (λ x. listed (head x) (rest x)) (set xs lead new))
      fewer-kept-in same left = record {
        had = fewer-set (λ a m. subst (IsIn a) (ap (λ h. listed h (rest new)) same ∙ ap (listed (head old)) left) m) xs lead read;
      }
