use Rattle.std.proofs.lemmas.Grind.{common_steps}
use Rattle.std.proofs.Common.{arith}
use Rattle.ics_period.proofs.date.lets_fields.Goals as goal

pub returns-then-lets_week : goal.returns-then-lets_week
returns-then-lets_week c = grind (arith, common_steps)
