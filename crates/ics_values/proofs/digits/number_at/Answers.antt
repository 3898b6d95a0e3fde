use Rattle.std.proofs.Common.{arith}
use Rattle.std.proofs.lemmas.Grind.{common_steps}
use Rattle.ics_values.proofs.digits.number_at.Goals as goal

pub loop-b-preserved : goal.loop-b-preserved
loop-b-preserved c = grind (arith, common_steps)

pub returns-clause-value : goal.returns-clause-value
returns-clause-value c = grind (arith, common_steps)
