use Rattle.std.proofs.Common.{arith}
use Rattle.std.proofs.lemmas.Grind.{common_steps}
use Rattle.ics_values.proofs.part_name.by_word.Goals as goal

pub loop-row-preserved : goal.loop-row-preserved
loop-row-preserved g c = grind (arith, common_steps)

pub returns : goal.returns
returns g c = grind (arith, common_steps)

pub returns-then-is_word : goal.returns-then-is_word
returns-then-is_word g c = grind (arith, common_steps)
