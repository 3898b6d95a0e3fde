-- The merge of lists rises, whatever the lists are, and so does what a test leaves of a list that rises.
use Rattle.std.proofs.Common.{◌≡◌, List, [], ◌∷◌, Bool, true, false, cond, filter, refl, ◌∙◌, ap}
use Rattle.std.specs.Cmp.{IsTotalOrder}
use Rattle.std.specs.Ordering.{ordering_reverse}
use Rattle.std.specs.declared.cmp.Ordering.{Ordering}
use Rattle.std.specs.declared.cmp.Ordering.TheVariants.{Less, Equal, Greater}
use Rattle.ics_listing.specs.Rising.{IsBefore, Rises}
use Rattle.ics_listing.specs.Merged.{by_order, put, union, merged}

module _ {A : Type 0} (R : A → A → Ordering) (test : A → Bool) where
  pub before-filter : (x : A) (ys : List A) → IsBefore R x ys → IsBefore R x (filter test ys)
  before-filter x [] h = tt
  before-filter x (y ∷ ys) h = by (test y) (before-filter x ys h.1)
    where
      by : (b : Bool) → IsBefore R x (filter test ys) → IsBefore R x (cond b (y ∷ filter test ys) (filter test ys))
      by true k = (h.0, k)
      by false k = k

  pub rises-filter : (xs : List A) → Rises R xs → Rises R (filter test xs)
  rises-filter [] h = tt
  rises-filter (x ∷ xs) h = by (test x) (rises-filter xs h.1)
    where
      by : (b : Bool) → Rises R (filter test xs) → Rises R (cond b (x ∷ filter test xs) (filter test xs))
      by true k = (before-filter x xs h.0, k)
      by false k = k

module _ {A : Type 0} (R : A → A → Ordering) (o : IsTotalOrder R) where
  -- x comes before all that follow y, if it comes before y
  pub before-trans : (x y : A) (ys : List A) → R x y ≡ Less → IsBefore R y ys → IsBefore R x ys
  before-trans x y [] l h = tt
  before-trans x y (z ∷ zs) l h = (o.trans x y z l h.0, before-trans x y zs l h.1)

  pub before-tied : (x y : A) (ys : List A) → R x y ≡ Equal → IsBefore R y ys → IsBefore R x ys
  before-tied x y [] e h = tt
  before-tied x y (z ∷ zs) e h = (o.congr x y z e ∙ h.0, before-tied x y zs e h.1)

  pub back : (x y : A) → R x y ≡ Greater → R y x ≡ Less
  back x y e = o.antisymm y x ∙ ap ordering_reverse e

  pub before-put : (x y : A) (ys : List A) → R x y ≡ Less → IsBefore R x ys → IsBefore R x (put R y ys)
  before-put x y [] l h = (l, tt)
  before-put x y (z ∷ zs) l h = by (R y z) (before-put x y zs l h.1)
    where
      by : (c : Ordering) → IsBefore R x (put R y zs) → IsBefore R x (by_order c (y ∷ z ∷ zs) (y ∷ zs) (z ∷ put R y zs))
      by Less k = (l, h)
      by Equal k = (l, h.1)
      by Greater k = (h.0, k)

  pub rises-put : (x : A) (ys : List A) → Rises R ys → Rises R (put R x ys)
  rises-put x [] h = (tt, tt)
  rises-put x (y ∷ ys) h = by (R x y) refl (rises-put x ys h.1)
    where
      by : (c : Ordering) → R x y ≡ c → Rises R (put R x ys) → Rises R (by_order c (x ∷ y ∷ ys) (x ∷ ys) (y ∷ put R x ys))
      by Less e k = ((e, before-trans x y ys e h.0), h)
      by Equal e k = (before-tied x y ys e h.0, h.1)
      by Greater e k = (before-put y x ys (back x y e) h.0, k)

  pub rises-union : (xs ys : List A) → Rises R ys → Rises R (union R xs ys)
  rises-union [] ys h = h
  rises-union (x ∷ xs) ys h = rises-put x (union R xs ys) (rises-union xs ys h)

  pub rises-merged : (xss : List (List A)) → Rises R (merged R xss)
  rises-merged [] = tt
  rises-merged (xs ∷ xss) = rises-union xs (merged R xss) (rises-merged xss)
