use Rattle.std.proofs.Common.{◌≡◌, ℕ, ◌<◌, ◌≤◌, ◌+◌, ◌-◌, ◌/◌, true}
use Rattle.ics_period.specs.RecurrencePeriods.{has_time}
use Rattle.ics_period.specs.Inner.StepRounds.{product, is_reached}
use Rattle.ics_period.proofs.steps.Round.least_of_day.Given as goal

abbrev pub invariant-loop-minute : goal.invariant-loop-minute
invariant-loop-minute l = record {
  less : l.least ≤ l.least-2;
  low : (t : ℕ) → t / 60 < l.at → has_time l.self.clock.hours l.self.clock.minutes l.self.clock.seconds t ≡ true
      → is_reached l.self (l.begin + t) ≡ true → l.least ≤ product l.self (l.begin + t);
  inside : l.at ≤ 1_440;
}

abbrev pub decreases-loop-minute : goal.decreases-loop-minute
decreases-loop-minute l = 1_440 - l.at
