use Rattle.std.proofs.Common.{arith}
use Rattle.ics_rule.proofs.EachLemmas.{size_secondly, size_minutely, size_hourly, daily}
use Rattle.ics_rule.proofs.MostLemmas.{day_within}
use Rattle.ics_rule.proofs.never.size_of_open.Goals as goal

pub returns-in-Secondly-clause-value : goal.returns-in-Secondly-clause-value
returns-in-Secondly-clause-value c = grind (arith, size_secondly)

pub returns-in-Minutely-clause-value : goal.returns-in-Minutely-clause-value
returns-in-Minutely-clause-value c = grind (arith, size_minutely)

pub returns-in-Hourly-clause-value : goal.returns-in-Hourly-clause-value
returns-in-Hourly-clause-value c = grind (arith, size_hourly)

pub returns-in_default : goal.returns-in_default
returns-in_default c = grind (arith, daily, day_within)
