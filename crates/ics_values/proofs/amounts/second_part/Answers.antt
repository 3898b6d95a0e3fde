use Rattle.std.proofs.Common.{[], refl, rules, arith}
use Rattle.std.proofs.lemmas.Grind.{common_steps}
use Rattle.ics_values.proofs.ShapeLemmas.{no_shape-behind}
use Rattle.ics_values.proofs.amounts.second_part.Goals as goal

pub returns-then-not-is_empty : goal.returns-then-not-is_empty
returns-then-not-is_empty c = no_shape-behind [] c.in_ok-seconds.ensures (search rules) refl

pub returns : goal.returns
returns c = grind (arith, common_steps)
