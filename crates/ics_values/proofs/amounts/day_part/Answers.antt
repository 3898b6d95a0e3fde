use Rattle.std.proofs.Common.{rules, arith}
use Rattle.std.proofs.lemmas.Grind.{common_steps}
use Rattle.ics_values.specs.Durations.{time_shapes}
use Rattle.ics_values.proofs.ShapeLemmas.{no_shape-behind}
use Rattle.ics_values.proofs.amounts.day_part.Goals as goal

pub returns-in_err-amounts : goal.returns-in_err-amounts
returns-in_err-amounts c =
    rw c.from_residual-in_err-amounts.ensures (no_shape-behind time_shapes c.in_ok-days.ensures (search rules) c.in_err-amounts.ensures)

pub returns-then-is_empty : goal.returns-then-is_empty
returns-then-is_empty c = grind (arith, common_steps)
