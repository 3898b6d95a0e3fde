use Rattle.std.proofs.Common.{◌≡◌, ℕ, ◌-◌, ◌≤◌, ◌&&◌, ◌||◌, nat_lt}
use Rattle.ics_fields.specs.Sets.{contains_wide}
use Rattle.ics_period.specs.Runs.{number_from}
use Rattle.ics_period.proofs.days.add_numbered_days.Given as goal

abbrev pub invariant-loop-n : goal.invariant-loop-n
invariant-loop-n l = ((m : ℕ) → contains_wide l.days m ≡ (contains_wide l.fn.days m
    || (nat_lt m l.len && (nat_lt (number_from l.side m l.len) l.from && contains_wide l.listed (number_from l.side m l.len)))))
    × (1 ≤ l.from)

abbrev pub decreases-loop-n : goal.decreases-loop-n
decreases-loop-n l = 384 - l.from
