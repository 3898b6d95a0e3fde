use Rattle.std.proofs.Common.{rules, ◌≡◌, ◌≤ℤ◌, arith, false, is_gt, subst, to_z, of_z, w64}
use Rattle.std.proofs.lemmas.Int.{ints}
use Rattle.std.proofs.lemmas.List.Elements.{recursion_from_All}
use Rattle.ics_listing.proofs.ListingLemmas.{all-as}
use Rattle.ics_days.specs.NearPlaces.{AreTaken, waiting_cmp}
use Rattle.ics_zone.proofs.Cases.{int_le_true}
use Rattle.ics_days.proofs.NearPlaceLemmas.{begins-by, next-returned, taken-one}
use Rattle.ics_days.proofs.near_places.take_back.Goals as goal

pub loop-one-preserved : goal.loop-one-preserved
loop-one-preserved c =
    let popped = c.pop_first.ensures in
    taken-one (subst (λ r. AreTaken c.args.returned.now.keys r c.args.near.now.items c.loop-one.near.items)
    (next-returned c.pop_first.result c.in-Some.ensures.first popped.variant.1 popped.removal) c.loop-one.invariant) c.in_ok-push.ensures.items

pub returns-then-to-one-clause-later : goal.returns-then-to-one-clause-later
returns-then-to-one-clause-later c =
    let one = c.in-Some.one.now in
    let keys = c.loop-one.returned.keys in
    let low = int_le_true (to_z w64 (of_z w64 c.args.to)) (to_z w64 (of_z w64 c.in-Some.one.now.first)) c.if-to-one.true in
    let first : to_z w64 (of_z w64 c.in-Some.one.now.first) ≡ c.in-Some.one.now.first = search rules in
    let to : to_z w64 (of_z w64 c.args.to) ≡ c.args.to = search rules in
    all-as (λ y. is_gt (waiting_cmp c.in-Some.one.now y) ≡ false) (λ y. c.args.to ≤ℤ y.first) keys
    (λ y l. omega (arith, ints, begins-by one y l, low, first, to)) (recursion_from_All _ keys c.in-Some.ensures.all_from)
