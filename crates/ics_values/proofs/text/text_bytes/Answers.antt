use Rattle.std.proofs.Common.{arith}
use Rattle.std.proofs.lemmas.Grind.{common_steps}
use Rattle.ics_values.proofs.text.text_bytes.Goals as goal

pub escapes-preserved : goal.escapes-preserved
escapes-preserved c = grind (arith, common_steps)
