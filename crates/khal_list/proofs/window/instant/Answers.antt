use Rattle.std.proofs.Common.{◌-ℤ◌, arith}
use Rattle.std.proofs.lemmas.Int.{ints}
use Rattle.ics_zone.specs.Inner.Near.{moment_near}
use Rattle.ics_zone.specs.Seconds.{IsNear}
use Rattle.ics_fields.specs.Locals.{local_seconds}
use Rattle.khal_list.proofs.window.instant.Goals as goal

pub returns-clause-near : goal.returns-clause-near
returns-clause-near c =
    let local = local_seconds c.args.local in
    let near : IsNear (c.moment.result -ℤ local) = rw c.moment.ensures.value (moment_near c.args.zone.now local) in
    (omega (arith, ints), omega (arith, ints))
