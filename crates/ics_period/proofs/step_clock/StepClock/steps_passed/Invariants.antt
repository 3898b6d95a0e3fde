use Rattle.std.proofs.Common.{◌≡◌, ℕ, ◌<◌, ◌≤◌, ◌+◌, ◌-◌, ◌*◌, ◌%◌, false}
use Rattle.ics_period.specs.Inner.StepClocks.{may_have}
use Rattle.ics_period.proofs.step_clock.StepClock.steps_passed.Given as goal

abbrev pub invariant-loop-steps : goal.invariant-loop-steps
invariant-loop-steps l = record {
  most : l.steps ≤ l.most;
  time : l.time ≡ (l.number + l.steps * l.interval) % l.self.per_day;
  none : (k : ℕ) → k < l.steps → may_have l.self (l.number + k * l.interval) ≡ false;
}

abbrev pub decreases-loop-steps : goal.decreases-loop-steps
decreases-loop-steps l = l.most - l.steps
