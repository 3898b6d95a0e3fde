use Rattle.std.proofs.Common.{arith}
use Rattle.std.proofs.lemmas.Nat.{div-add-mod'}
use Rattle.ics_period.proofs.Counts.{count_most}
use Rattle.ics_rule.proofs.OpenLemmas.{day_seconds}
use Rattle.ics_rule.proofs.open_periods.open_by_days.Goals as goal

pub overflow_add-result : goal.overflow_add-result
overflow_add-result c = grind (arith, count_most, day_seconds, div-add-mod')

pub overflow_add-result-2 : goal.overflow_add-result-2
overflow_add-result-2 c = grind (arith, count_most, day_seconds)

pub returns : goal.returns
returns c = grind (arith, day_seconds)
