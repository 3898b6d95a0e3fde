use Rattle.std.proofs.Common.{◌≡◌, List, [], ◌∷◌, ℕ, zero, suc, Some, drop, take, length, slice_get, w64, to_z, of_z}
use Rattle.std.proofs.Common.{refl, rules, sym, ◌∙◌, ap, subst, arith, SFits}
use Rattle.std.proofs.lemmas.Int.{ints}
use Rattle.std.proofs.lemmas.List.{take-append-drop}
use Rattle.std.proofs.lemmas.Option.{slice_get_read}
use Rattle.ics_listing.specs.StartOrder.{moment_cmp}
use Rattle.ics_listing.specs.Rising.{Rises}
use Rattle.ics_listing.specs.declared.start.Start.{Start}
use Rattle.ics_listing.proofs.FirstLemmas.{first-least, moment_total}
use Rattle.ics_listing.proofs.ListingLemmas.{rises-end}
use Rattle.ics_listing.proofs.listed_starts.ListedStarts.from.Goals as goal

first-behind : (xs : List Start) (k : ℕ) → slice_get xs k ≡ slice_get (drop k xs) 0
first-behind [] zero = refl
first-behind [] (suc k) = refl
first-behind (x ∷ xs) zero = refl
first-behind (x ∷ xs) (suc k) = first-behind xs k

pub returns-in-Some : goal.returns-in-Some
returns-in-Some c = λ t m late.
    let at = c.loop-at.at in
    let all = c.args.self.now.starts.items in
    let fits : to_z w64 (of_z w64 c.in-Some.start.now.moment) ≡ c.in-Some.start.now.moment = search rules in
    let asked : SFits w64 c.args.moment = c.ranges.moment in
    let rises : Rises moment_cmp (drop at all) =
    rises-end moment_cmp moment_total (take at all) (drop at all) (subst (Rises moment_cmp) (sym (take-append-drop at all)) c.args.self.now.rises) in
    let lookup = c.in-Some.ensures.lookup in
    let here : slice_get c.deref.result.now at ≡ Some c.in-Some.start.now =
    slice_get_read c.deref.result.now (length c.deref.result.now) at c.in-Some.start.now refl lookup.3.0 lookup.1 in
    let is : Some c.in-Some.start.now ≡ slice_get all at = sym here ∙ ap (λ (xs : List Start). slice_get xs at) c.deref.ensures.value in
    let least = first-least (drop at all) rises c.in-Some.start.now (is ∙ first-behind all at) t (c.loop-at.invariant t m (omega (arith, ints, late, asked))) in
    omega (arith, ints, fits, least)
