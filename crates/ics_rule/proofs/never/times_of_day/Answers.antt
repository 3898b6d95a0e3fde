use Rattle.std.proofs.Common.{arith}
use Rattle.ics_rule.proofs.MostLemmas.{day_times}
use Rattle.ics_rule.proofs.never.times_of_day.Goals as goal

pub returns-clause-value : goal.returns-clause-value
returns-clause-value c = let all = day_times c.args.parts.now in grind arith
