use Rattle.std.proofs.Common.{◌≡◌, ℕ, ◌+◌, ◌-◌, ◌≤◌, ◌&&◌, nat_lt}
use Rattle.ics_fields.specs.Sets.{contains, contains_wide}
use Rattle.ics_period.proofs.MonthDays.{seen_months}
use Rattle.ics_period.proofs.days.add_listed_days.Given as goal

abbrev pub invariant-loop-month : goal.invariant-loop-month
invariant-loop-month l = ((k : ℕ) → contains_wide l.days k ≡ (nat_lt k l.len && seen_months l.parts (contains l.months) l.from (l.first + k)))
    × (1 ≤ l.from)

abbrev pub decreases-loop-month : goal.decreases-loop-month
decreases-loop-month l = 64 - l.from
