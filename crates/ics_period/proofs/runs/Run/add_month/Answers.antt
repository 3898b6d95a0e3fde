use Rattle.std.proofs.Common.{arith}
use Rattle.ics_period.proofs.runs.Run.add_month.Goals as goal

pub returns-then-is_empty : goal.returns-then-is_empty
returns-then-is_empty c = grind arith

pub returns-else-is_empty : goal.returns-else-is_empty
returns-else-is_empty c = grind arith
