-- Of sorted starts the first at each instant.
use Rattle.std.proofs.Common.{◌≡◌, ℕ, ◌≤◌, ℤ, List, [], ◌∷◌, true, false, Option, Some, None, ◌⊎◌, inl, inr, ⊎_elim, refl, sym, ◌∙◌, ap, subst, arith, ◌<ℤ◌}
use Rattle.std.proofs.Common.{◌≤ℤ◌, slice_get, int_cmp, int_eq, nat_cmp, is_gt, Less, Equal}
use Rattle.std.specs.Cmp.{IsTotalOrder, int_ranks}
use Rattle.std.specs.List.Sorted.{IsPermutation}
use Rattle.std.specs.Ordering.{ordering_then, MatchOrdering}
use Rattle.std.proofs.lemmas.Cmp.{int_cmp_total, nat_cmp_total, on_total, then_total, tied_itself}
use Rattle.std.proofs.lemmas.Bool.{cond_both}
use Rattle.std.proofs.lemmas.Bool.Decides.{nat_tests}
use Rattle.std.proofs.lemmas.Int.{ints}
use Rattle.std.proofs.lemmas.List.Sorted.{IsPermutation-sym}
use Rattle.ics_listing.specs.declared.start.StartSource.{StartSource}
use Rattle.ics_listing.specs.declared.start.StartSource.TheVariants.{Kept, Listed}
use Rattle.ics_listing.specs.declared.start.Start.{Start}
use Rattle.ics_listing.specs.StartOrder.{day_in, firsts_after, source_cmp, moment_cmp, part_of, place_in, start_cmp, AreFirsts, HasStart}
use Rattle.ics_listing.specs.Listing.{IsIn}
use Rattle.ics_listing.specs.Inner.MergedLaws.{before-tied, before-trans}
use Rattle.ics_listing.specs.Rising.{IsBefore, Rises}
use Rattle.ics_listing.specs.StartTimes.{IsNotAfter}
use Rattle.std.specs.Option.{option_eq}
use Rattle.ics_listing.proofs.Cases.{eq-Equal, less-by, some-same, equal-true, up-to-front}
use Rattle.ics_listing.proofs.ListingLemmas.{IsUpTo, Climbs, before-in, in-permutation, up-to-in}

pub source_total : IsTotalOrder source_cmp
source_total = then_total (on_total part_of nat_cmp_total) (then_total (on_total day_in int_cmp_total) (on_total place_in nat_cmp_total))

pub start_total : IsTotalOrder start_cmp
start_total = then_total (on_total (λ s. s.moment) int_cmp_total) (on_total (λ s. s.source) source_total)

pub moment_total : IsTotalOrder moment_cmp
moment_total = on_total (λ s. s.moment) int_cmp_total

pub same-moment : (s t : Start) → s.moment ≡ t.moment → moment_cmp s t ≡ Equal
same-moment s t e = ap (int_cmp s.moment) (sym e) ∙ tied_itself int_cmp_total s.moment

pub tied-moment : (s t : Start) → moment_cmp s t ≡ Equal → s.moment ≡ t.moment
tied-moment s t e = subst (λ o. MatchOrdering o (s.moment <ℤ t.moment) (s.moment ≡ t.moment) (t.moment <ℤ s.moment)) e (int_ranks s.moment t.moment)

pub int-less : (a b : ℤ) → int_cmp a b ≡ Less → a <ℤ b
int-less a b e = subst (λ o. MatchOrdering o (a <ℤ b) (a ≡ b) (b <ℤ a)) e (int_ranks a b)

-- the first of rising starts is at the least of their instants
pub first-least : (xs : List Start) → Rises moment_cmp xs → (first : Start) → Some first ≡ slice_get xs 0 → (t : Start) → IsIn t xs → first.moment ≤ℤ t.moment
first-least [] r first is t m = absurd m
first-least (x ∷ xs) r first is t m =
    let same = ap (λ (s : Start). s.moment) (some-same first x is) in
    ⊎_elim (λ e. omega (arith, ints, same, ap (λ (s : Start). s.moment) e))
    (λ n. omega (arith, ints, same, int-less x.moment t.moment (before-in moment_cmp moment_total x t xs r.0 n))) m

pub none-first : (xs : List Start) → None ≡ slice_get xs 0 → (t : Start) → IsIn t xs → ⊥
none-first [] is t m = m
none-first (x ∷ xs) is t m = absurd cc

nat-up-to : (a b : ℕ) → is_gt (nat_cmp a b) ≡ false → a ≤ b
nat-up-to a b g = grind (arith, nat_tests)

both-up-to : (a b : ℤ) (m n : ℕ) → is_gt (ordering_then (int_cmp a b) (nat_cmp m n)) ≡ false → (a <ℤ b) ⊎ ((a ≡ b) × (m ≤ n))
both-up-to a b m n h = grind (arith, ints, nat_tests)

-- what is not after another by its parts stands no later in the order of what gives starts
pub source-order : (g k : StartSource) → is_gt (source_cmp g k) ≡ false → IsNotAfter g k
source-order (Kept a) (Kept b) h =
    ⊎_elim (λ l. omega (arith, ints, l, a.second_in, b.second_in)) (λ e. omega (arith, ints, e.0, e.1)) (both-up-to a.day b.day a.second b.second h)
source-order (Kept a) (Listed b) h = tt
source-order (Listed a) (Kept b) h = let f : true ≡ false = h in absurd cc
source-order (Listed a) (Listed b) h = nat-up-to a b h

-- The instants rise.
abbrev RisesAfter : Start → List Start → Type 0
RisesAfter x zs = IsBefore moment_cmp x zs × Rises moment_cmp zs

rises-after : (x : Start) (xs : List Start) → IsUpTo start_cmp x xs → Climbs start_cmp xs → RisesAfter x (firsts_after (Some x.moment) xs)
rises-after x [] u h = (tt, tt)
rises-after x (y ∷ ys) u h =
    let rest = rises-after y ys h.0 h.1 in
    let firsts = firsts_after (Some y.moment) ys in
    cond_both (int_eq x.moment y.moment) firsts (y ∷ firsts) (RisesAfter x)
    (λ e. (before-tied moment_cmp moment_total x y firsts (eq-Equal (moment_cmp x y) e) rest.0, rest.1))
    (λ e.
    let less = less-by (moment_cmp x y) (up-to-front (moment_cmp x y) (source_cmp x.source y.source) u.0) e in
    ((less, before-trans moment_cmp moment_total x y firsts less rest.0), rest))

rises-firsts : (xs : List Start) → Climbs start_cmp xs → Rises moment_cmp (firsts_after None xs)
rises-firsts [] h = tt
rises-firsts (x ∷ xs) h = rises-after x xs h.0 h.1

-- The members.
firsts-in : (last : Option ℤ) (s : Start) (xs : List Start) → IsIn s (firsts_after last xs) → IsIn s xs
firsts-in last s [] m = m
firsts-in last s (x ∷ xs) m =
    let firsts = firsts_after (Some x.moment) xs in
    cond_both (option_eq int_eq last (Some x.moment)) firsts (x ∷ firsts) (λ zs. IsIn s zs → IsIn s (x ∷ xs))
    (λ e m. inr (firsts-in (Some x.moment) s xs m)) (λ e m. ⊎_elim inl (λ n. inr (firsts-in (Some x.moment) s xs n)) m) m

pub at-true : (last : Option ℤ) (t : ℤ) → option_eq int_eq last (Some t) ≡ true → last ≡ Some t
at-true None t e = let f : false ≡ true = e in absurd cc
at-true (Some u) t e = ap Some (equal-true u t e)

-- each has one at its instant whose source is not later
in-firsts : (last : Option ℤ) (s : Start) (xs : List Start) → Climbs start_cmp xs → IsIn s xs →
    (last ≡ Some s.moment) ⊎ HasStart (firsts_after last xs) s.source s.moment
in-firsts last s [] h m = absurd m
in-firsts last s (x ∷ xs) h m =
    let firsts = firsts_after (Some x.moment) xs in
    let rest : (Some x.moment ≡ Some s.moment) ⊎ HasStart (firsts_after (Some x.moment) xs) s.source s.moment =
    ⊎_elim (λ is. inl (ap (λ t. Some t.moment) (sym is))) (λ n. in-firsts (Some x.moment) s xs h.1 n) m in
    let up-to : is_gt (start_cmp x s) ≡ false =
    ⊎_elim (λ is. ap (λ t. is_gt (start_cmp x t)) is ∙ ap is_gt (tied_itself start_total x)) (λ n. up-to-in start_cmp x s xs h.0 n) m in
    cond_both (option_eq int_eq last (Some x.moment)) firsts (x ∷ firsts) (λ zs. (last ≡ Some s.moment) ⊎ HasStart zs s.source s.moment)
    (λ e. ⊎_elim (λ f. inl (at-true last x.moment e ∙ f)) inr rest)
    (λ e. inr (⊎_elim
    (λ f.
    let same = some-same x.moment s.moment f in
    record { start = x; stands = inl refl; same = same; earlier = source-order x.source s.source (rw (same-moment x s same) at up-to) })
    (λ f. record { start = f.start; stands = inr f.stands; same = f.same; earlier = f.earlier })
    rest))

-- of starts in any order, sorted, the first of each run
pub firsts-of : (xs ys : List Start) → IsPermutation xs ys → Climbs start_cmp ys → AreFirsts xs (firsts_after None ys)
firsts-of xs ys p climbs = record {
  rises = rises-firsts ys climbs;
  are = λ t m. in-permutation t ys xs (IsPermutation-sym xs ys p) (firsts-in None t ys m);
  all = λ s m. ⊎_elim (λ f. let g : None ≡ Some s.moment = f in absurd cc) (λ k. k) (in-firsts None s ys climbs (in-permutation s xs ys p m));
}
