use Rattle.std.proofs.lemmas.Grind.{common_steps}
use Rattle.std.proofs.Common.{arith}
use Rattle.ics_period.proofs.recurrence_period.clock_of.Goals as goal

pub returns-clause-hours : goal.returns-clause-hours
returns-clause-hours c = grind (arith, common_steps)

pub returns-clause-minutes : goal.returns-clause-minutes
returns-clause-minutes c = grind (arith, common_steps)

pub returns-clause-seconds : goal.returns-clause-seconds
returns-clause-seconds c = grind (arith, common_steps)

pub returns-clause-hours_bound : goal.returns-clause-hours_bound
returns-clause-hours_bound c = grind (arith, common_steps)

pub returns-clause-minutes_bound : goal.returns-clause-minutes_bound
returns-clause-minutes_bound c = grind (arith, common_steps)

pub returns-clause-seconds_bound : goal.returns-clause-seconds_bound
returns-clause-seconds_bound c = grind (arith, common_steps)
