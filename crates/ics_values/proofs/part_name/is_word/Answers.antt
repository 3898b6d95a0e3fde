use Rattle.std.proofs.Common.{arith}
use Rattle.std.proofs.lemmas.Grind.{common_steps}
use Rattle.ics_values.proofs.part_name.is_word.Goals as goal

pub returns-then-text-word : goal.returns-then-text-word
returns-then-text-word c = grind (arith, common_steps)

pub returns-then-not-is_byte_of : goal.returns-then-not-is_byte_of
returns-then-not-is_byte_of c = grind (arith, common_steps)

pub loop-i-preserved : goal.loop-i-preserved
loop-i-preserved c = grind (arith, common_steps)

pub returns : goal.returns
returns c = grind (arith, common_steps)
