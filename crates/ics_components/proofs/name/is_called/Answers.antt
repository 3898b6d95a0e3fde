use Rattle.std.proofs.Common.{arith}
use Rattle.std.proofs.lemmas.Grind.{common_steps}
use Rattle.ics_components.proofs.name.is_called.Goals as goal

pub returns-then-name-other : goal.returns-then-name-other
returns-then-name-other c = grind (arith, common_steps)

pub returns-then-not-is_one_letter : goal.returns-then-not-is_one_letter
returns-then-not-is_one_letter c = grind (arith, common_steps)

pub loop-i-preserved : goal.loop-i-preserved
loop-i-preserved c = grind (arith, common_steps)

pub returns : goal.returns
returns c = grind (arith, common_steps)
