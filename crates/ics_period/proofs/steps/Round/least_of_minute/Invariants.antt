use Rattle.std.proofs.Common.{◌≡◌, ℕ, ◌<◌, ◌≤◌, ◌+◌, ◌-◌, true}
use Rattle.ics_fields.specs.Sets.{contains}
use Rattle.ics_period.specs.Inner.StepRounds.{product}
use Rattle.ics_period.proofs.steps.Round.least_of_minute.Given as goal

abbrev pub invariant-loop-second : goal.invariant-loop-second
invariant-loop-second l = record {
  less : l.least ≤ l.least-2;
  low : (s : ℕ) → s < l.at → contains l.seconds s ≡ true → l.least ≤ product l.self (l.begin + s);
}

abbrev pub decreases-loop-second : goal.decreases-loop-second
decreases-loop-second l = 64 - l.at
