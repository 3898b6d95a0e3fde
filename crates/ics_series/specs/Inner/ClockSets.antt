-- Two clocks, and those by which the times of a file are read, are the same in at most one way.
use Rattle.std.specs.Prelude.{◌≡◌, ℤ, List, [], ◌∷◌}
use Rattle.std.specs.Coded.{×_prop, Unit-prop, codes}
use Rattle.std.proofs.Props.{props}
use Rattle.std.proofs.Common.{ap, refl, subst}
use mathlib.Core.HLevel.{collapsible→set, Π_set}
use Rattle.ics_listing.specs.FileClocks.{Clock, Clocks}

int-set : (a b : ℤ) → IsProp (a ≡ b)
int-set a b = hlevel (props, codes)

clock-set : (a b : Clock) → IsProp (a ≡ b)
clock-set a b p q = λ i j. record {
  moment = Π_set (λ t. int-set) a.moment b.moment (λ k. (p k).moment) (λ k. (q k).moment) i j;
  offset = Π_set (λ t. int-set) a.offset b.offset (λ k. (p k).offset) (λ k. (q k).offset) i j;
}

-- the clocks of two lists are the same, one by one
abbrev AreSame : List Clock → List Clock → Type 0
AreSame [] [] = Unit {0}
AreSame (x ∷ xs) (y ∷ ys) = (x ≡ y) × AreSame xs ys
AreSame _ _ = ⊥

same-prop : (xs ys : List Clock) → IsProp (AreSame xs ys)
same-prop [] [] = Unit-prop
same-prop (x ∷ xs) (y ∷ ys) = ×_prop (clock-set x y) (same-prop xs ys)
same-prop [] (y ∷ ys) = λ a b. absurd a
same-prop (x ∷ xs) [] = λ a b. absurd a

same-itself : (xs : List Clock) → AreSame xs xs
same-itself [] = tt
same-itself (x ∷ xs) = (refl, same-itself xs)

same-list : (xs ys : List Clock) → AreSame xs ys → xs ≡ ys
same-list [] [] same = refl
same-list (x ∷ xs) (y ∷ ys) same = λ i. same.0 i ∷ same-list xs ys same.1 i
same-list [] (y ∷ ys) same = absurd same
same-list (x ∷ xs) [] same = absurd same

same-of : (xs ys : List Clock) → xs ≡ ys → AreSame xs ys
same-of xs ys e = subst (AreSame xs) e (same-itself xs)

zones-set : (xs ys : List Clock) → IsProp (xs ≡ ys)
zones-set =
    collapsible→set (λ xs ys e. same-list xs ys (same-of xs ys e))
    (λ xs ys e f. ap (same-list xs ys) (same-prop xs ys (same-of xs ys e) (same-of xs ys f)))

pub clocks-set : (a b : Clocks) → IsProp (a ≡ b)
clocks-set a b p q = λ i j. record {
  display = clock-set a.display b.display (λ k. (p k).display) (λ k. (q k).display) i j;
  zones = zones-set a.zones b.zones (λ k. (p k).zones) (λ k. (q k).zones) i j;
}
