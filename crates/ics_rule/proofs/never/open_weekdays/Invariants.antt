use Rattle.std.proofs.Common.{◌≡◌, ◌≤◌, ◌-◌}
use Rattle.ics_period.specs.Candidates.{lets_date}
use Rattle.ics_period.specs.Ranks.{count}
use Rattle.ics_rule.proofs.never.open_weekdays.Given as goal

abbrev pub invariant-loop-day : goal.invariant-loop-day
invariant-loop-day l = (l.total ≡ count l.day (lets_date l.parts)) × ((l.total ≤ l.day) × (l.day ≤ 7))

abbrev pub decreases-loop-day : goal.decreases-loop-day
decreases-loop-day l = 7 - l.day
