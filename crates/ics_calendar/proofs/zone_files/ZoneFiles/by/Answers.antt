use Rattle.std.proofs.Common.{arith}
use Rattle.std.proofs.lemmas.Grind.{common_steps}
use Rattle.ics_calendar.proofs.FilesGiven.{or-placed}
use Rattle.ics_calendar.proofs.zone_files.ZoneFiles.by.Goals as goal

pub loop-pair-preserved : goal.loop-pair-preserved
loop-pair-preserved c = λ name. grind (arith, common_steps, or-placed, c.loop-pair.invariant name, c.in_ok-add.ensures.added name)
