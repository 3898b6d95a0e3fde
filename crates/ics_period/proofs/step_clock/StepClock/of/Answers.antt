use Rattle.std.proofs.Common.{◌≡◌, ℕ, ◌/◌, ◌%◌, true, false, ◌&&◌, refl, sym, ap, ◌∙◌, arith}
use Rattle.std.proofs.lemmas.Bool.{and_parts, and_from, false_from_ne_true, true_from_ne_false, both_ways, or_parts, not-false}
use Rattle.ics_fields.specs.Days.{weekday_of}
use Rattle.ics_fields.specs.Ordinals.{lists_no_weekday}
use Rattle.ics_fields.specs.Sets.{contains}
use Rattle.ics_period.specs.declared.effective_rule.EffectiveRule.{EffectiveRule}
use Rattle.ics_period.specs.declared.step_clock.StepClock.{StepClock}
use Rattle.ics_period.specs.Candidates.{lets_date, lets_clock, IsClosed}
use Rattle.ics_period.specs.Inner.NamedWeekdays.{names_weekday}
use Rattle.ics_period.specs.Inner.StepClocks.{HasTimes}
use Rattle.ics_period.specs.PeriodNumbers.{day_of}
use Rattle.ics_period.specs.RecurrencePeriods.{has_time}
use Rattle.ics_period.proofs.DateLemmas.{weekday_out}
use Rattle.ics_period.proofs.step_clock.StepClock.of.Goals as goal

-- a day that BYDAY lets in has a weekday that it names
named : (q : EffectiveRule) (e : ℕ) → lists_no_weekday q.weekdays ≡ false → lets_date q e ≡ true → names_weekday q.weekdays (weekday_of e) ≡ true
named q e some on = true_from_ne_false _ (λ none.
    let both = or_parts _ _ none in
    both_ways _ (weekday_out q e (rw (some, both.0) refl) (not-false _ both.1)) on)

-- a clock with the times of day of a rule, on days that have those that the rule lets in
closed : (q : EffectiveRule) (c : StepClock) (cycle days : ℕ) → HasTimes q c → ((e : ℕ) → lets_date q e ≡ true → contains days (e % cycle) ≡ true) → (p : ℕ)
    → (contains days (p / c.per_day % cycle) && has_time c.hours c.minutes c.seconds (p % c.per_day)) ≡ false → IsClosed q p
closed q c cycle days has let_in p none n own = false_from_ne_true (lets_date q (day_of n) && lets_clock q n) (λ yes.
    let both = and_parts (lets_date q (day_of n)) (lets_clock q n) yes in
    let day = ap (λ e. contains days (e % cycle)) (has.day n) ∙ let_in (day_of n) both.0 in
    both_ways _ (ap (λ p. contains days (p / c.per_day % cycle) && has_time c.hours c.minutes c.seconds (p % c.per_day)) own ∙ none)
    (and_from _ _ day (has.time n both.1)))

pub returns-then-is_empty : goal.returns-then-is_empty
returns-then-is_empty c =
    let clock = c.in_ok-clock.clock in
    let every = c.in_ok-clock.ensures.days in
    closed c.args.parts.now clock clock.cycle clock.days c.in_ok-clock.ensures.times (λ e on.
    let first : e % 1 ≡ 0 = omega arith in
    rw (every.0, every.1, first) refl)

pub returns : goal.returns
returns c =
    let q = c.args.parts.now in
    closed q c.in_ok-clock.clock 7 c.days_of_week-clock.result c.in_ok-clock.ensures.times (λ e on.
    let same : weekday_of (e % 7) ≡ weekday_of e = omega arith in
    c.days_of_week-clock.ensures (e % 7) (omega arith) ∙ ap (names_weekday q.weekdays) same
    ∙ named q e (sym c.is_empty.ensures ∙ c.if-is_empty.false) on)
