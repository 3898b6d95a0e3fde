use Rattle.std.proofs.Common.{arith}
use Rattle.std.proofs.lemmas.Grind.{common_steps, flat_map-append, fold-append}
use Rattle.ics_calendar.proofs.file_parts.add_later.Goals as goal

pub loop-sound-preserved : goal.loop-sound-preserved
loop-sound-preserved c = grind (arith, common_steps, flat_map-append, fold-append)
