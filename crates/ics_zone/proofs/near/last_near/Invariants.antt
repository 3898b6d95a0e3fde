use Rattle.std.proofs.Common.{◌≤◌}
use Rattle.ics_rule.specs.Next.{NoneKept}
use Rattle.ics_zone.proofs.near.last_near.Given as goal

abbrev pub invariant-loop-days : goal.invariant-loop-days
invariant-loop-days l = record { high : l.end ≤ l.fn.bound; none : NoneKept l.fn.rule l.end l.fn.bound }

abbrev pub decreases-loop-days : goal.decreases-loop-days
decreases-loop-days l = l.days
