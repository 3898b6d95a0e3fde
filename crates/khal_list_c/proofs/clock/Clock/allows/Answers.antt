use Rattle.std.proofs.Common.{arith}
use Rattle.std.proofs.lemmas.Grind.{common_steps}
use Rattle.ics_fields.specs.Locals.{number}
use Rattle.khal_list_c.proofs.Instances.{instant-utc, seconds-numbered}
use Rattle.khal_list_c.proofs.clock.Clock.allows.Goals as goal

pub returns-in-Utc : goal.returns-in-Utc
returns-in-Utc c =
    let utc = instant-utc (number c.args.local) in
    let same = seconds-numbered c.args.local c.requires.day in
    grind (arith, common_steps)

pub returns-in-InZone : goal.returns-in-InZone
returns-in-InZone c =
    let same = seconds-numbered c.args.local c.requires.day in
    let moment = c.moment.ensures.value in
    grind (arith, common_steps)
