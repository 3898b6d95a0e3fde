use Rattle.std.proofs.Common.{rules, ◌≡◌, ◌≤ℤ◌, drop, slice_get, Some, arith, length, refl, subst, to_z, of_z, w64}
use Rattle.std.proofs.lemmas.Int.{ints}
use Rattle.std.proofs.lemmas.Option.{slice_get_read}
use Rattle.ics_listing.proofs.ListingLemmas.{all-as}
use Rattle.ics_zone.proofs.Cases.{int_le_true}
use Rattle.ics_days.specs.NearPlaces.{AreTaken}
use Rattle.ics_days.proofs.NearPlaceLemmas.{next-waits, taken-one, waiting-from}
use Rattle.ics_days.proofs.near_places.take.Goals as goal

pub loop-one-preserved : goal.loop-one-preserved
loop-one-preserved c =
    let lookup = c.in-Some.ensures.lookup in
    let at : slice_get c.args.waiting.now c.loop-one.taken ≡ Some c.in-Some.one.now =
    slice_get_read c.args.waiting.now (length c.args.waiting.now) c.loop-one.taken c.in-Some.one.now refl lookup.3.0 lookup.1 in
    taken-one (subst (λ r. AreTaken (drop c.args.taken.now c.args.waiting.now) r c.args.near.now.items c.loop-one.near.items)
    (next-waits c.args.waiting.now c.loop-one.taken at) c.loop-one.invariant) c.in_ok-push.ensures.items

pub returns-then-to-one-clause-later : goal.returns-then-to-one-clause-later
returns-then-to-one-clause-later c =
    let one = c.in-Some.one.now in
    let lookup = c.in-Some.ensures.lookup in
    let at : slice_get c.args.waiting.now c.loop-one.taken ≡ Some c.in-Some.one.now =
    slice_get_read c.args.waiting.now (length c.args.waiting.now) c.loop-one.taken c.in-Some.one.now refl lookup.3.0 lookup.1 in
    let low = int_le_true (to_z w64 (of_z w64 c.args.to)) (to_z w64 (of_z w64 c.in-Some.one.now.first)) c.if-to-one.true in
    let first : to_z w64 (of_z w64 c.in-Some.one.now.first) ≡ c.in-Some.one.now.first = search rules in
    let to : to_z w64 (of_z w64 c.args.to) ≡ c.args.to = search rules in
    all-as (λ y. one.first ≤ℤ y.first) (λ y. c.args.to ≤ℤ y.first) (drop c.loop-one.taken c.args.waiting.now)
    (λ y l. omega (arith, ints, l, low, first, to))
    (waiting-from c.args.waiting.now c.loop-one.taken c.requires at)
