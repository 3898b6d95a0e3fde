-- Which periods of a day or shorter a rule may allow a local in.
use Rattle.std.specs.Prelude.{◌≡◌, ℕ, ◌/◌, ◌%◌, Bool, true, ◌&&◌}
use Rattle.ics_fields.specs.Sets.{contains}
use Rattle.ics_period.specs.declared.effective_rule.EffectiveRule.{EffectiveRule}
use Rattle.ics_period.specs.declared.step_clock.StepClock.{StepClock}
use Rattle.ics_period.specs.PeriodNumbers.{day_of}
use Rattle.ics_period.specs.Candidates.{lets_clock, period_in}
use Rattle.ics_period.specs.RecurrencePeriods.{has_time}

-- the weekday of a period and its time of day may be allowed
abbrev pub may_have : StepClock → ℕ → Bool
may_have c p = contains c.days (p / c.per_day % c.cycle) && has_time c.hours c.minutes c.seconds (p % c.per_day)

-- so many periods of a rule are a day, and the clock has the time of day of each that has a local whose time the rule allows
pub record HasTimes (q : EffectiveRule) (c : StepClock) : Type 0 where
  pub day : (n : ℕ) → period_in q n / c.per_day ≡ day_of n
  pub time : (n : ℕ) → lets_clock q n ≡ true → has_time c.hours c.minutes c.seconds (period_in q n % c.per_day) ≡ true
