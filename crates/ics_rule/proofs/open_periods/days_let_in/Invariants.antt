use Rattle.std.proofs.Common.{◌-◌}
use Rattle.ics_period.specs.Candidates.{lets_date}
use Rattle.ics_period.specs.NearDays.{AreNear}
use Rattle.ics_period.proofs.StepWalks.{IsStepWalk}
use Rattle.ics_rule.proofs.open_periods.days_let_in.Given as goal

abbrev pub invariant-loop-day : goal.invariant-loop-day
invariant-loop-day l = IsStepWalk l.from l.search.parts.now.interval (lets_date l.search.parts.now) l.from l.before l.day l.total
    × AreNear l.search.parts.now l.near

abbrev pub decreases-loop-day : goal.decreases-loop-day
decreases-loop-day l = l.before - l.day
