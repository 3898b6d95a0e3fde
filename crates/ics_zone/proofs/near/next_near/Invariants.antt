use Rattle.std.proofs.Common.{◌+◌, ◌≤◌}
use Rattle.ics_period.specs.PeriodNumbers.{rules_end}
use Rattle.ics_rule.specs.Next.{NoneKept}
use Rattle.ics_zone.proofs.near.next_near.Given as goal

abbrev pub invariant-loop-days : goal.invariant-loop-days
invariant-loop-days l = record { low : l.fn.from ≤ l.at; high : l.at ≤ rules_end + 86_400; none : NoneKept l.fn.rule l.fn.from l.at }

abbrev pub decreases-loop-days : goal.decreases-loop-days
decreases-loop-days l = l.days
