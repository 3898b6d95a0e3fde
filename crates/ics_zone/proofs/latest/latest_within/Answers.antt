use Rattle.std.proofs.Common.{rules, refl, SFits, w32, w64, to_z, of_z}
use Rattle.std.proofs.lemmas.Int.{to_z-of_z}
use Rattle.ics_zone.proofs.ZoneSteps.{within_none, within_some}
use Rattle.ics_zone.proofs.latest.latest_within.Goals as goal

pub loop-place-preserved-in_default : goal.loop-place-preserved-in_default
loop-place-preserved-in_default c = λ zone all.
    within_none all c.loop-place-test.true c.index-onsets-place.is
    (to_z w64 (of_z w64 c.args.moment)) (to_z w64 (of_z w64 c.args.after)) (to_z w64 (of_z w64 c.begun-from.result))
    c.loop-place.latest (search rules) (c.loop-place.invariant zone all) (search rules)

pub loop-place-preserved : goal.loop-place-preserved
loop-place-preserved c = λ zone all.
    let at : SFits w64 c.in-Some.at = search rules in
    let offset : SFits w32 c.index-onsets-place.result.offset_to = search rules in
    within_some all c.loop-place-test.true c.index-onsets-place.is
    (to_z w64 (of_z w64 c.args.moment)) (to_z w64 (of_z w64 c.args.after)) (to_z w64 (of_z w64 c.begun-from.result))
    c.loop-place.latest (search rules) (c.loop-place.invariant zone all) c.later.ensures (record {
      place = refl;
      offset = to_z-of_z w32 c.index-onsets-place.result.offset_to offset;
      last = rw (to_z-of_z w64 c.in-Some.at at) c.in-Some.ensures.last;
    }) (rw (to_z-of_z w64 c.in-Some.at at) c.in-Some.ensures.after)
