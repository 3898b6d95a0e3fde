use Rattle.std.proofs.Common.{◌≡◌, ℕ, ◌+◌, ◌-◌, ◌&&◌, ◌||◌, nat_lt}
use Rattle.ics_fields.specs.Sets.{contains_wide}
use Rattle.ics_period.specs.Runs.{has_run, weekday_in, lists_weekday}
use Rattle.ics_period.proofs.runs.Run.add_weekdays.Given as goal

abbrev pub invariant-loop-weekday : goal.invariant-loop-weekday
invariant-loop-weekday l = (m : ℕ) → contains_wide l.days m ≡ (contains_wide l.fn.days m
    || (has_run l.self m && (nat_lt (weekday_in l.self (m - l.self.start)) l.from
    && lists_weekday l.weekdays (weekday_in l.self (m - l.self.start)) (m - l.self.start + 1) l.self.len)))

abbrev pub decreases-loop-weekday : goal.decreases-loop-weekday
decreases-loop-weekday l = 64 - l.from
