use Rattle.std.proofs.Common.{◌≡◌, ℕ, ◌<◌, ◌≤◌, ◌/◌, true}
use Rattle.ics_period.specs.Inner.StepClocks.{may_have}
use Rattle.ics_period.specs.Inner.StepRounds.{product, is_reached}
use Rattle.ics_period.proofs.steps.Round.least.Given as goal

abbrev pub invariant-loop-day : goal.invariant-loop-day
invariant-loop-day l = record {
  most : l.least ≤ l.self.periods;
  low : (p : ℕ) → p / l.self.clock.per_day < l.day → may_have l.self.clock p ≡ true → is_reached l.self p ≡ true → l.least ≤ product l.self p;
}
