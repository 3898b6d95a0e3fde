use Rattle.std.proofs.Common.{w32, arith, SFits}
use Rattle.std.proofs.lemmas.Int.{ints}
use Rattle.ics_zone.specs.ZoneSaid.{display_said, said_moment}
use Rattle.ics_starts.proofs.InstantLemmas.{moved, result_near}
use Rattle.ics_listing.proofs.Cases.{moment-back}
use Rattle.ics_starts.proofs.finish.midnight_after.Goals as goal

pub returns-clause-value : goal.returns-clause-value
returns-clause-value c =
    let day : SFits w32 c.args.day = c.ranges.day in
    let days : SFits w32 c.args.days = c.ranges.days in
    let same = moment-back c.moment.result c.moment.type_inv in
    moved (said_moment (display_said c.args.display.now)) same c.moment.ensures.value (omega (arith, ints))

pub returns-clause-early : goal.returns-clause-early
returns-clause-early c =
    let far = result_near c.args.display.now c.moment.result _ c.moment.ensures.value in
    omega (arith, ints, far)
