use Rattle.std.proofs.Common.{arith}
use Rattle.std.proofs.lemmas.Grind.{common_steps, flat_map-append, fold-append}
use Rattle.ics_calendar.proofs.file_parts.add_faults.Goals as goal

pub loop-first-preserved : goal.loop-first-preserved
loop-first-preserved c = grind (arith, common_steps, flat_map-append, fold-append)
