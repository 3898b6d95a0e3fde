use Rattle.std.proofs.Common.{◌≡◌, ℕ, ◌/◌, ◌%◌, true, refl, arith}
use Rattle.std.proofs.lemmas.Bool.{and_parts}
use Rattle.std.proofs.lemmas.Bool.Decides.{nat_tests}
use Rattle.std.proofs.lemmas.Nat.Bits.{bit_at-zero}
use Rattle.ics_fields.specs.Sets.{contains}
use Rattle.ics_period.specs.declared.step_clock.StepClock.{StepClock}
use Rattle.ics_period.specs.Candidates.{lets_clock}
use Rattle.ics_period.specs.PeriodNumbers.{hour_of, minute_of, second_of}
use Rattle.ics_period.specs.RecurrencePeriods.{has_time}
use Rattle.ics_period.proofs.step_clock.StepClock.by_time.Goals as goal
use Rattle.ics_period.proofs.step_clock.StepClock.by_time.Goals.{After-zero_if_some-first}

-- the hour, the minute and the second of a local whose time the rule allows are in its sets, which then let 0 in
own : (c : After-zero_if_some-first) (n : ℕ) → lets_clock c.args.parts.now n ≡ true → (contains c.zero_if_some-first.result 0 ≡ true)
    × ((contains c.clock_set-hours.result (hour_of n) ≡ true)
    × ((contains c.clock_set-minutes.result (minute_of n) ≡ true) × (contains c.clock_set-seconds.result (second_of n) ≡ true)))
own c n on =
    let hour = c.clock_set-hours.ensures.members (hour_of n) (omega arith) in
    let minute = c.clock_set-minutes.ensures.members (minute_of n) (omega arith) in
    let second = c.clock_set-seconds.ensures.members (second_of n) (omega arith) in
    grind (arith, nat_tests, and_parts, bit_at-zero)

-- a period that is numbered by members may be allowed
numbered : (r : StepClock) (t x y z : ℕ) → t / 60 / 60 ≡ x → t / 60 % 60 ≡ y → t % 60 ≡ z → contains r.hours x ≡ true → contains r.minutes y ≡ true
    → contains r.seconds z ≡ true → has_time r.hours r.minutes r.seconds t ≡ true
numbered r t x y z a b c hour minute second = rw (a, b, c, hour, minute, second) refl

pub returns-in-Secondly-clause-times : goal.returns-in-Secondly-clause-times
returns-in-Secondly-clause-times c = record {
  day = λ n. grind arith;
  time = λ n on. (let in_sets = own (goal.at.returns-in-Secondly-clause-times c).After-zero_if_some-first n on in
      grind (arith, numbered c.every_day.result (n % 86_400) (hour_of n) (minute_of n) (second_of n)));
}

pub returns-in-Minutely-clause-times : goal.returns-in-Minutely-clause-times
returns-in-Minutely-clause-times c = record {
  day = λ n. grind arith;
  time = λ n on. (let in_sets = own (goal.at.returns-in-Minutely-clause-times c).After-zero_if_some-first n on in
      grind (arith, numbered c.every_day-in-Minutely.result (n / 60 % 1_440) 0 (hour_of n) (minute_of n)));
}

pub returns-in-Hourly-clause-times : goal.returns-in-Hourly-clause-times
returns-in-Hourly-clause-times c = record {
  day = λ n. grind arith;
  time = λ n on. (let in_sets = own (goal.at.returns-in-Hourly-clause-times c).After-zero_if_some-first n on in
      grind (arith, numbered c.every_day-in-Hourly.result (n / 3_600 % 24) 0 0 (hour_of n)));
}

pub returns-in-Daily-clause-times : goal.returns-in-Daily-clause-times
returns-in-Daily-clause-times c = record {
  day = λ n. grind arith;
  time = λ n on. (let in_sets = own (goal.at.returns-in-Daily-clause-times c).After-zero_if_some-first n on in
      grind arith);
}
