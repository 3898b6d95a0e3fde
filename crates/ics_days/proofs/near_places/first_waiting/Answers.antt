use Rattle.std.proofs.Common.{rules, ◌≡◌, ◌≤ℤ◌, drop, slice_get, Some, arith, length, refl, to_z, of_z, w64}
use Rattle.std.proofs.lemmas.Int.{ints, to_z-of_z}
use Rattle.std.proofs.lemmas.Option.{slice_get_read}
use Rattle.ics_listing.proofs.ListingLemmas.{all-as}
use Rattle.ics_days.proofs.NearPlaceLemmas.{waiting-from}
use Rattle.ics_days.proofs.near_places.first_waiting.Goals as goal

pub returns-in-Some-clause-each : goal.returns-in-Some-clause-each
returns-in-Some-clause-each c =
    let one = c.in-Some.one.now in
    let at : slice_get c.args.waiting.now c.args.taken ≡ Some c.in-Some.one.now =
    slice_get_read c.args.waiting.now (length c.args.waiting.now) c.args.taken c.in-Some.one.now refl c.in-Some.ensures.lookup.3.0 c.in-Some.ensures.lookup.1 in
    let first : to_z w64 (of_z w64 c.in-Some.one.now.first) ≡ c.in-Some.one.now.first = search rules in
    let fits : to_z w64 (of_z w64 c.min.result) ≡ c.min.result = to_z-of_z w64 c.min.result (record { sfits = c.min.type_inv }) in
    all-as (λ y. one.first ≤ℤ y.first) (λ y. to_z w64 (of_z w64 c.min.result) ≤ℤ y.first) (drop c.args.taken c.args.waiting.now)
    (λ y l. omega (arith, ints, l, first, fits, c.min.ensures.other_bound))
    (waiting-from c.args.waiting.now c.args.taken c.requires at)
