use Rattle.std.proofs.Common.{◌≤◌, ◌-◌}
use Rattle.ics_period.proofs.WeekDays.{IsCover}
use Rattle.ics_period.proofs.weeks.days_near_weeks.Given as goal

abbrev pub invariant-loop-n : goal.invariant-loop-n
invariant-loop-n l = IsCover l.parts.weeks l.fourth l.len l.from l.days × (1 ≤ l.from)

abbrev pub decreases-loop-n : goal.decreases-loop-n
decreases-loop-n l = 64 - l.from
