use Rattle.std.proofs.Common.{◌≡◌, ℕ, ◌≤◌, ◌-◌}
use Rattle.ics_fields.specs.Sets.{contains}
use Rattle.ics_period.proofs.WeekDays.{seen_weeks}
use Rattle.ics_period.proofs.weeks.listed_weeks.Given as goal

abbrev pub invariant-loop-n : goal.invariant-loop-n
invariant-loop-n l = (n : ℕ) → 1 ≤ n → n ≤ 53 → contains l.listed n ≡ seen_weeks (contains l.weeks.front) (contains l.weeks.back) l.from n

abbrev pub decreases-loop-n : goal.decreases-loop-n
decreases-loop-n l = 64 - l.from
