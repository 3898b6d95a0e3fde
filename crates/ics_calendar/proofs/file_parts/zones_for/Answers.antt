use Rattle.std.proofs.Common.{arith}
use Rattle.std.proofs.lemmas.Grind.{common_steps}
use Rattle.ics_calendar.proofs.file_parts.zones_for.Goals as goal

pub loop-zone-preserved : goal.loop-zone-preserved
loop-zone-preserved c = grind (arith, common_steps, c.in_ok-used.ensures c.in-Some.zone.name)
