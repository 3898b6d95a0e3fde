-- The periods of a day or less that a rule lets in repeat with the calendar.
use Rattle.std.proofs.Common.{◌≡◌, ℕ, ◌+◌, ◌*◌, ◌/◌, ◌<◌, ◌≤◌, arith, ◌-◌}
use Rattle.ics_fields.specs.declared.frequency.Frequency.{Frequency}
use Rattle.ics_period.specs.declared.effective_rule.EffectiveRule.{EffectiveRule}
use Rattle.ics_period.specs.Ranks.{count}
use Rattle.ics_rule.specs.Inner.Rounds.{seconds_of, calendar_periods, IsCalendarRound}
use Rattle.ics_rule.specs.Inner.OpenPeriods.{per_day, is_open_period}
use Rattle.ics_period.proofs.Counts.{count-add, count_most}
use Rattle.ics_period.proofs.CountBounds.{count_rounds}
use Rattle.ics_rule.proofs.OpenLemmas.{own_day}
use Rattle.ics_period.proofs.CycleLemmas.{date_again}
use Rattle.ics_rule.proofs.CalendarRounds.{calendar_step}
use Rattle.ics_rule.proofs.open_periods.open_between.Goals.{After-open_by_days-rest}
use Rattle.ics_rule.proofs.open_periods.open_between.Goals as goal

day_again : (f : Frequency) (p k : ℕ) → 0 < seconds_of f → seconds_of f ≤ 86_400 → (p + k * calendar_periods f) / per_day f ≡ p / per_day f + 146_097 * k
day_again f p k h u = grind arith

second_again : (f : Frequency) (p k : ℕ) → 0 < seconds_of f → seconds_of f ≤ 86_400 →
    (p + k * calendar_periods f) * seconds_of f ≡ p * seconds_of f + 146_097 * k * 86_400
second_again f p k h u = grind arith

module _ (q : EffectiveRule) (first periods : ℕ) (round : IsCalendarRound q periods) (fine : 0 < seconds_of q.frequency)
    (unit : seconds_of q.frequency ≤ 86_400) where
  open_again : (p : ℕ) → first ≤ p → is_open_period q first (p + periods) ≡ is_open_period q first p
  open_again p l = grind (arith, calendar_step, date_again, day_again, own_day, second_again)

  -- of whole rounds each has as many as the first
  module _ (from : ℕ) (low : first ≤ from) where
    pub open_rounds : (before rounds one rest : ℕ)
        → one + count from (is_open_period q first) ≡ count (from + periods) (is_open_period q first)
        → rest + count (from + rounds * periods) (is_open_period q first) ≡ count before (is_open_period q first)
        → rounds * one + rest + count from (is_open_period q first) ≡ count before (is_open_period q first)
    open_rounds before rounds one rest eo er =
        let all = count_rounds (is_open_period q first) {a = from} periods (λ n l. open_again n (omega (arith, low, l))) rounds in
        let one_is : one ≡ count periods (λ k. is_open_period q first (from + k)) = grind (arith, count-add) in rw one_is (omega (arith, all, er))

-- the rounds and the rest are all of it
all : (c : After-open_by_days-rest) → (c.args.before - c.args.from) / c.in-Some.round * c.open_by_days-one.result + c.open_by_days-rest.result
    + count c.args.from (is_open_period c.args.search.now.parts.now c.args.search.now.first)
    ≡ count c.args.before (is_open_period c.args.search.now.parts.now c.args.search.now.first)
all c = open_rounds c.args.search.now.parts.now c.args.search.now.first c.in-Some.round c.in-Some.ensures.round c.requires.fine c.requires.unit
    c.args.from c.requires.first
    c.args.before ((c.args.before - c.args.from) / c.in-Some.round) c.open_by_days-one.result c.open_by_days-rest.result c.open_by_days-one.ensures
    c.open_by_days-rest.ensures

pub overflow_mul-result : goal.overflow_mul-result
overflow_mul-result c = grind (arith, all, count_most)

pub overflow_add-result : goal.overflow_add-result
overflow_add-result c = grind (arith, all, count_most)

pub returns : goal.returns
returns c = all c
