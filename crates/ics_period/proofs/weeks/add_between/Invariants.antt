use Rattle.std.proofs.Common.{◌≡◌, ℕ, ◌≤◌, ◌&&◌, ◌||◌, nat_lt, nat_le, max}
use Rattle.ics_fields.specs.Sets.{contains_wide}
use Rattle.ics_period.proofs.weeks.add_between.Given as goal

abbrev pub invariant-loop-k : goal.invariant-loop-k
invariant-loop-k l = ((m : ℕ) → contains_wide l.days m ≡ (contains_wide l.fn.days m || (nat_le l.low m && nat_lt m l.k))) × (l.k ≤ max l.low l.end)
