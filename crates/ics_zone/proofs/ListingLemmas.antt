-- The list of the instants of DTSTART and of the RDATEs.
use Rattle.std.proofs.Common.{◌≡◌, ℕ, zero, suc, ◌+◌, ◌<◌, ◌≤◌, inl, inr, Bool, true, false, ◌||◌, ◌==◌, sym, ap, refl, arith, List, [], int_cmp, is_lt}
use Rattle.std.proofs.Common.{◌∷◌, ◌++◌, length, get_or, take, map, Contains, ℤ, ◌≤ℤ◌}
use Rattle.std.proofs.lemmas.Bool.{eqb-true, eq-eqb, false≢true, or_cases, or_left, or_right}
use Rattle.std.specs.List.{list_any}
use Rattle.std.specs.List.Sorted.{IsPermutation, IsSorted}
use Rattle.std.proofs.lemmas.Int.{ints}
use Rattle.std.proofs.lemmas.Bool.Decides.{nat_tests}
use Rattle.std.proofs.lemmas.Cmp.{int_cmp_total}
use Rattle.std.proofs.lemmas.List.{map_more, take_all}
use Rattle.std.proofs.lemmas.List.Sorted.{IsPermutation-sym, Contains-permutation, ranks_by, sorted_far}
use Rattle.ics_fields.specs.declared.local.Local.{Local}
use Rattle.ics_fields.specs.Locals.{number}
use Rattle.ics_zone.specs.Observances.{ObservanceSaid, instant_by}
use Rattle.ics_zone.specs.Inner.Latest.{IsInOrder}
use Rattle.ics_zone.specs.Inner.OnsetSets.{IsListing}

abbrev pub instants_of : ObservanceSaid → List Local → List ℤ
instants_of p locals = map (λ l. instant_by p.offset_from (number l)) locals

turned : (m n : ℕ) (b : Bool) → ((m == n) || b) ≡ true → ((n == m) || b) ≡ true
turned m n b e = grind (arith, nat_tests)

-- a sorted list is in order
not_less : (s t : ℤ) → is_lt (int_cmp t s) ≡ false → s ≤ℤ t
not_less s t e = grind (arith, ints)

pub in_order : (list : List ℤ) → IsSorted int_cmp list → IsInOrder list
in_order list up j k d l h = not_less _ _ (sorted_far (λ x y. is_lt (int_cmp x y)) (ranks_by int_cmp_total (λ x. x)) list up j k d l h)

module _ (p : ObservanceSaid) where
  -- one local more
  pub instants_more : {x : Local} {old new : List ℤ} {t : ℤ} (i : ℕ) → i < length p.rdates → x ≡ get_or p.rdates i x
      → t ≡ instant_by p.offset_from (number x) → new ≡ old ++ t ∷ []
      → old ≡ instants_of p (p.start ∷ take i p.rdates) → new ≡ instants_of p (p.start ∷ take (i + 1) p.rdates)
  instants_more {x = x} i inside at is then before =
      rw (then, before, map_more (λ l. instant_by p.offset_from (number l)) p.rdates i x inside, ← at, is) refl

  known : (locals : List Local) (t : ℤ) → Contains (instants_of p locals) t
      → (n : ℕ) × ((t ≡ instant_by p.offset_from n) × (list_any (λ l. number l == n) locals ≡ true))
  known [] t h = absurd (omega (arith, h.1))
  known (l ∷ locals) t (zero, inside, is) = (number l, (sym is, or_left (number l == number l) _ (eq-eqb (number l) (number l) refl)))
  known (l ∷ locals) t (suc k, inside, is) =
      let later = known locals t (k, omega arith, is) in (later.0, (later.1.0, or_right (number l == later.0) _ later.1.1))

  complete : (locals : List Local) (n : ℕ) → list_any (λ l. number l == n) locals ≡ true → Contains (instants_of p locals) (instant_by p.offset_from n)
  complete [] n e = absurd (false≢true e)
  complete (l ∷ locals) n e = elim (or_cases (number l == n) _ e) [
    | inl here ↦ (0, omega arith, ap (instant_by p.offset_from) (eqb-true (number l) n here))
    | inr later ↦ (let c = complete locals n later in (suc c.0, omega arith, c.2))
  ]

  pub listing_of : {sorted : List ℤ} (i : ℕ) → length p.rdates ≤ i → IsPermutation (instants_of p (p.start ∷ take i p.rdates)) sorted
      → IsSorted int_cmp sorted → IsListing p sorted
  listing_of {sorted = sorted} i past moved up =
      let list : List ℤ = instants_of p (p.start ∷ p.rdates) in
      let whole : IsPermutation list sorted = rw (take_all i p.rdates past) at moved in
      record {
        in_order = in_order sorted up;
        known = λ t h.
            let k = known (p.start ∷ p.rdates) t (Contains-permutation sorted list t (IsPermutation-sym list sorted whole) h) in
            (k.0, (k.1.0, turned (number p.start) k.0 _ k.1.1));
        complete = λ n e.
            Contains-permutation list sorted (instant_by p.offset_from n) whole (complete (p.start ∷ p.rdates) n (turned n (number p.start) _ e));
      }
