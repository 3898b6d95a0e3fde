use Rattle.std.proofs.lemmas.Grind.{common_steps}
use Rattle.std.proofs.Common.{◌≡◌, ◌+ℤ◌, arith}
use Rattle.std.proofs.lemmas.Int.{to_z-of_z, ints}
use Rattle.ics_zone.specs.Inner.Near.{offset_near}
use Rattle.ics_fields.specs.Locals.{seconds_at}
use Rattle.ics_zone.specs.ZoneSaid.{display_said, said_offset}
use Rattle.khal_list.proofs.window.today.Goals as goal

pub returns-clause-bound : goal.returns-clause-bound
returns-clause-bound c =
    let near = offset_near c.args.zone.now c.args.now in
    let shown : seconds_at c.local-day.result.day c.local-day.result.second ≡ (c.args.now +ℤ said_offset (display_said c.args.zone.now) c.args.now) =
    simp (to_z-of_z, c.ranges.now) at c.local-day.ensures in
    (omega (arith, ints), omega (arith, ints))

pub returns-clause-value : goal.returns-clause-value
returns-clause-value c = grind (ints, arith, common_steps)
