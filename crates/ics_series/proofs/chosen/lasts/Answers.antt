use Rattle.std.proofs.lemmas.Grind.{common_steps}
use Rattle.std.proofs.Common.{arith}
use Rattle.ics_series.proofs.chosen.lasts.Goals as goal

pub loop-k-preserved-then-is_followed : goal.loop-k-preserved-then-is_followed
loop-k-preserved-then-is_followed c = grind (arith, common_steps)

pub loop-k-preserved : goal.loop-k-preserved
loop-k-preserved c = grind (arith, common_steps)

pub returns : goal.returns
returns c = grind (arith, common_steps)
