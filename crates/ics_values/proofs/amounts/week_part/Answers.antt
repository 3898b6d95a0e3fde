use Rattle.std.proofs.Common.{[], refl, rules}
use Rattle.ics_values.proofs.ShapeLemmas.{no_shape-behind}
use Rattle.ics_values.proofs.amounts.week_part.Goals as goal

pub returns-then-not-is_empty : goal.returns-then-not-is_empty
returns-then-not-is_empty c = no_shape-behind [] c.in_ok-weeks.ensures (search rules) refl
