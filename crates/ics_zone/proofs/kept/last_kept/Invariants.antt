use Rattle.std.proofs.Common.{◌≤◌}
use Rattle.ics_rule.specs.Next.{NoneKept}
use Rattle.ics_zone.proofs.kept.last_kept.Given as goal

abbrev pub invariant-loop-end : goal.invariant-loop-end
invariant-loop-end l = record { in_bound : l.end ≤ l.fn.bound; ahead : 1 ≤ l.back; none : NoneKept l.fn.rule l.end l.fn.bound }

abbrev pub decreases-loop-end : goal.decreases-loop-end
decreases-loop-end l = l.end
