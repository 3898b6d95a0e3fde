use Rattle.std.proofs.Common.{arith}
use Rattle.std.proofs.lemmas.Grind.{common_steps}
use Rattle.std.proofs.lemmas.List.Folds.{list_any-append}
use Rattle.ics_calendar.proofs.file_parts.used_zones.Goals as goal

pub loop-sound-preserved : goal.loop-sound-preserved
loop-sound-preserved c = λ name. grind (arith, common_steps, list_any-append, c.loop-sound.invariant name, c.in_ok-add_zones.ensures name)
