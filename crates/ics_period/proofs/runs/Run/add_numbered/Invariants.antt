use Rattle.std.proofs.Common.{◌≡◌, ℕ, ◌≤◌, ◌+◌, ◌-◌, ◌/◌, ◌&&◌, ◌||◌, ◌==◌, nat_lt}
use Rattle.ics_fields.specs.Sets.{contains, contains_wide}
use Rattle.ics_period.specs.Runs.{has_run, weekday_in}
use Rattle.ics_period.proofs.runs.Run.add_numbered.Given as goal

abbrev pub invariant-loop-n : goal.invariant-loop-n
invariant-loop-n l = ((m : ℕ) → contains_wide l.days m ≡ (contains_wide l.fn.days m
    || (has_run l.self m && ((weekday_in l.self (m - l.self.start) == l.weekday)
    && (nat_lt ((m - l.self.start) / 7 + 1) l.from && contains l.listed ((m - l.self.start) / 7 + 1))))))
    × (1 ≤ l.from)

abbrev pub decreases-loop-n : goal.decreases-loop-n
decreases-loop-n l = 64 - l.from
