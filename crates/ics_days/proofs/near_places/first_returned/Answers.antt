use Rattle.std.proofs.Common.{rules, ◌≡◌, ◌≤ℤ◌, arith, false, is_gt, to_z, of_z, w64}
use Rattle.std.proofs.lemmas.Int.{ints, to_z-of_z}
use Rattle.std.proofs.lemmas.List.Elements.{recursion_from_All}
use Rattle.ics_listing.proofs.ListingLemmas.{all-as}
use Rattle.ics_days.specs.NearPlaces.{waiting_cmp}
use Rattle.ics_days.proofs.NearPlaceLemmas.{begins-by}
use Rattle.ics_days.proofs.near_places.first_returned.Goals as goal

pub returns-in-Some-clause-each : goal.returns-in-Some-clause-each
returns-in-Some-clause-each c =
    let one = c.in-Some.one.now in
    let keys = c.args.returned.now.keys in
    let first : to_z w64 (of_z w64 c.in-Some.one.now.first) ≡ c.in-Some.one.now.first = search rules in
    let fits : to_z w64 (of_z w64 c.min.result) ≡ c.min.result = to_z-of_z w64 c.min.result (record { sfits = c.min.type_inv }) in
    all-as (λ y. is_gt (waiting_cmp c.in-Some.one.now y) ≡ false) (λ y. to_z w64 (of_z w64 c.min.result) ≤ℤ y.first) keys
    (λ y l. omega (arith, ints, begins-by one y l, first, fits, c.min.ensures.other_bound))
    (recursion_from_All _ keys c.in-Some.ensures.all_from)
