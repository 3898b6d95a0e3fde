use Rattle.std.proofs.Common.{◌-◌, length, ◌<◌, ◌≤◌}
use Rattle.ics_zone.proofs.answers.group_end.Given as goal

abbrev pub invariant-loop-end : goal.invariant-loop-end
invariant-loop-end l = record { some : l.fn.first < l.end; inside : l.end ≤ length l.locals }

abbrev pub decreases-loop-end : goal.decreases-loop-end
decreases-loop-end l = length l.locals - l.end
