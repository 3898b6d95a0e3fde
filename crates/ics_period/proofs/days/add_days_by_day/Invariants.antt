use Rattle.std.proofs.Common.{◌≡◌, ℕ, ◌+◌, ◌&&◌, nat_lt}
use Rattle.ics_fields.specs.Sets.{contains_wide}
use Rattle.ics_period.specs.Candidates.{lets_date}
use Rattle.ics_period.proofs.days.add_days_by_day.Given as goal

abbrev pub invariant-loop-k : goal.invariant-loop-k
invariant-loop-k l = (m : ℕ) → contains_wide l.days m ≡ (nat_lt m l.k && lets_date l.parts (l.first + m))
