use Rattle.std.proofs.Common.{◌≡◌, ℕ, ◌<◌, ◌≤◌, ◌+◌, ◌-◌, ◌*◌, ◌%◌, Bool, false, inl, inr, sym, ap, ◌∙◌, arith}
use Rattle.std.proofs.lemmas.Bool.{cases_lt, and_left, and_right}
use Rattle.std.proofs.lemmas.Nat.{mod-mul-add}
use Rattle.std.proofs.Math.Nat.{add-mod, mod-eq_of_lt, mod-lt}
use Rattle.ics_period.specs.Inner.StepClocks.{may_have}
use Rattle.ics_period.specs.RecurrencePeriods.{has_time}
use Rattle.ics_period.proofs.step_clock.StepClock.steps_passed.Goals as goal
use Rattle.ics_period.proofs.step_clock.StepClock.steps_passed.Goals.{else-has_time-via-then-has_time+else-has_day, else-has_time-via-else-has_time}
use Rattle.ics_period.proofs.step_clock.StepClock.steps_passed.Goals.{then-time-per_day, else-time-per_day}

-- the rest of a sum, from the rest of its first part
same_round : (x i d : ℕ) {time : ℕ} → time ≡ x % d → time + i % d < d → time + i % d ≡ (x + i) % d
same_round x i d at low = sym (add-mod x i d ∙ ap (λ y. (y + i % d) % d) (sym at) ∙ mod-eq_of_lt low)

next_round : (x i d : ℕ) {time : ℕ} → 1 ≤ d → time ≡ x % d → d ≤ time + i % d → time + i % d - d ≡ (x + i) % d
next_round x i d {time = time} some at high =
    let own = mod-lt x some in
    let ahead = mod-lt i some in
    let split : time + i % d ≡ 1 * d + (time + i % d - d) = omega (arith, high) in
    sym (add-mod x i d ∙ ap (λ y. (y + i % d) % d) (sym at) ∙ ap (λ y. y % d) split
    ∙ mod-mul-add 1 d (time + i % d - d) (omega (arith, own, ahead, at, high)))

-- one more number that does not pass
one_more : (f : ℕ → Bool) (n : ℕ) → ((k : ℕ) → k < n → f k ≡ false) → f n ≡ false → (k : ℕ) → k < n + 1 → f k ≡ false
one_more f n none last k early = elim (cases_lt k n) [
  | inl less ↦ none k less
  | inr more ↦ ap f (omega (arith, early, more)) ∙ last
]

pub loop-steps-preserved : goal.loop-steps-preserved
loop-steps-preserved c =
    let clock = c.args.self.now in
    let before = c.loop-steps.invariant in
    let period = c.args.number + c.loop-steps.steps * c.args.interval in
    let next : period + c.args.interval ≡ c.args.number + (c.loop-steps.steps + 1) * c.args.interval = omega arith in
    let closed : may_have clock period ≡ false = elim c.else-has_time.branch [
      | else-has_time-via-then-has_time+else-has_day w ↦ and_left _ _ (sym w.has_day.ensures ∙ w.if-has_day.false)
      | else-has_time-via-else-has_time w ↦ and_right _ _ (ap (has_time clock.hours clock.minutes clock.seconds) (sym before.time)
          ∙ sym c.has_time.ensures ∙ w.if-has_time.false)
    ] in
    let time : c.if-time-per_day.time ≡ (period + c.args.interval) % clock.per_day = elim c.if-time-per_day.branch [
      | then-time-per_day w ↦ w.time-is ∙ next_round period c.args.interval clock.per_day clock.some before.time w.if-time-per_day.true
      | else-time-per_day w ↦ w.time-is ∙ same_round period c.args.interval clock.per_day before.time w.if-time-per_day.false
    ] in
    record {
      most = omega (arith, c.loop-steps-test.true);
      time = time ∙ ap (λ x. x % clock.per_day) next;
      none = one_more (λ k. may_have clock (c.args.number + k * c.args.interval)) c.loop-steps.steps before.none closed;
    }
