use Rattle.std.proofs.Common.{rules, refl, SFits, w32, w64, to_z, of_z}
use Rattle.std.proofs.lemmas.Int.{to_z-of_z}
use Rattle.ics_zone.proofs.ZoneSteps.{latest_none, latest_some}
use Rattle.ics_zone.proofs.latest.latest_of_each.Goals as goal

pub loop-place-preserved-in_default : goal.loop-place-preserved-in_default
loop-place-preserved-in_default c = λ zone all.
    latest_none all c.loop-place-test.true c.index-onsets-place.is
    (to_z w64 (of_z w64 c.args.moment))
    c.loop-place.latest (c.loop-place.invariant zone all) (search rules)

pub loop-place-preserved : goal.loop-place-preserved
loop-place-preserved c = λ zone all.
    let offset : SFits w32 c.index-onsets-place.result.offset_to = search rules in
    latest_some all c.loop-place-test.true c.index-onsets-place.is
    (to_z w64 (of_z w64 c.args.moment)) c.loop-place.latest (c.loop-place.invariant zone all) c.later.ensures (record {
      place = refl;
      offset = to_z-of_z w32 c.index-onsets-place.result.offset_to offset;
      last = rw (to_z-of_z w64 c.in-Some.at (search rules)) c.in-Some.ensures;
    })
