use Rattle.std.proofs.Common.{◌+◌, ◌≤◌}
use Rattle.ics_rule.proofs.each_day.days_of_year.Given as goal

abbrev pub invariant-loop-day : goal.invariant-loop-day
invariant-loop-day l = l.days + l.fn.from ≤ l.day
