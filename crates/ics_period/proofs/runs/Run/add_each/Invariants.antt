use Rattle.std.proofs.Common.{◌≡◌, ℕ, ◌-◌, ◌&&◌, ◌||◌, ◌==◌, nat_lt}
use Rattle.ics_fields.specs.Sets.{contains_wide}
use Rattle.ics_period.specs.Runs.{has_run, weekday_in}
use Rattle.ics_period.proofs.runs.Run.add_each.Given as goal

abbrev pub invariant-loop-place : goal.invariant-loop-place
invariant-loop-place l = ((m : ℕ) → contains_wide l.days m
    ≡ (contains_wide l.fn.days m || (has_run l.self m && (nat_lt (m - l.self.start) l.place && (weekday_in l.self (m - l.self.start) == l.weekday)))))
    × (weekday_in l.self l.place ≡ l.weekday)

abbrev pub decreases-loop-place : goal.decreases-loop-place
decreases-loop-place l = l.self.len - l.place
