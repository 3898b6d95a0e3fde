-- A product holds what the rule lets in within the period.
use Rattle.std.proofs.Common.{◌≡◌, ℕ, ◌+◌, ◌-◌, ◌*◌, ◌/◌, ◌%◌, ◌<◌, Bool, true, ◌==◌, nat_le, nat_lt, ◌&&◌, ◌||◌, ap, ◌∙◌, arith, ◌≤◌, refl}
use Rattle.std.proofs.lemmas.Bool.{cases_lt}
use Rattle.std.proofs.lemmas.Bool.Decides.{nat_tests}
use Rattle.jiff_core.specs.Weekday.{monday_zero}
use Rattle.ics_fields.specs.declared.frequency.Frequency.{Frequency}
use Rattle.ics_fields.specs.declared.frequency.Frequency.TheVariants.{Secondly, Minutely, Hourly}
use Rattle.ics_period.specs.declared.effective_rule.EffectiveRule.{EffectiveRule}
use Rattle.ics_fields.specs.Sets.{contains, contains_wide}
use Rattle.ics_period.specs.PeriodNumbers.{period}
use Rattle.ics_period.specs.EffectiveRules.{skips_hours, skips_minutes, skips_seconds}
use Rattle.ics_period.specs.Candidates.{lets, lets_date, lets_clock}
use Rattle.ics_period.specs.declared.recurrence_period.RecurrencePeriod.{RecurrencePeriod}
use Rattle.ics_period.specs.RecurrencePeriods.{first_local, has_day, has_second, holds, is_let_in}
use Rattle.ics_period.proofs.PeriodLemmas.{begun, begins, IsPeriodFrom, before_first, before_next, next_first, period_fits, week_small}
use Rattle.ics_period.proofs.ScanLemmas.{time_at}
use Rattle.ics_period.proofs.MonthDays.{period_span}
use Rattle.ics_period.proofs.recurrence_period.RecurrencePeriod.new.Goals.{After-first_local-end}
use Rattle.ics_period.proofs.recurrence_period.RecurrencePeriod.new.Goals as goal

abbrev day_test : ℕ → ℕ → ℕ → Bool
day_test b e n = nat_le (b / 86_400) (n / 86_400) && nat_lt (n / 86_400 - b / 86_400) ((e + 86_399) / 86_400 - b / 86_400)

-- the tests of the day and of the clock's fixed readings
abbrev span_test : Frequency → ℕ → ℕ → ℕ → Bool
span_test f b e n = day_test b e n && ((skips_hours f || (n / 3_600 % 24 == b / 3_600 % 24)) && (skips_minutes f || (n / 60 % 60 == b / 60 % 60))
    && (skips_seconds f || (n % 60 == b % 60)))

-- they say that a local lies in the period
day_span : (b e n : ℕ) → (day_test (b * 86_400) (e * 86_400) n && (true && true && true)) ≡ (nat_le (b * 86_400) n && nat_lt n (e * 86_400))
day_span b e n = grind (arith, nat_tests)

between_is : (f : Frequency) (w p n : ℕ) → (nat_le (first_local f w p) n && nat_lt n (first_local f w (p + 1))) ≡ (period f w n == p)
between_is f w p n = grind (arith, nat_tests, before_first, before_next, begins, begun)

span_is : (f : Frequency) (w p n : ℕ) → span_test f (first_local f w p) (first_local f w (p + 1)) n ≡ (period f w n == p)
span_is Secondly w p n = grind (arith, nat_tests)
span_is Minutely w p n = grind (arith, nat_tests)
span_is Hourly w p n = grind (arith, nat_tests)
span_is f w p n = day_span _ _ n ∙ between_is f w p n

-- two conjunctions, by their first and their second tests
exchange : (a b c d : Bool) → ((a && b) && (c && d)) ≡ ((a && c) && (b && d))
exchange a b c d = grind arith

day_back : (a e : ℕ) (x : Bool) (f : ℕ → Bool) → (nat_le a e && (x && f (a + (e - a)))) ≡ ((nat_le a e && x) && f e)
day_back a e x f = grind (arith, nat_tests, cases_lt)

-- a product of the days that a rule lets in, from that of local b on and before local e, and of the readings that it lets in, if they are not b's
pub record IsProduct (q : EffectiveRule) (b e : ℕ) (p : RecurrencePeriod) : Type 0 where
  pub first : p.first_day ≡ b / 86_400
  pub days : (k : ℕ) → contains_wide p.days k ≡ (nat_lt k ((e + 86_399) / 86_400 - b / 86_400) && lets_date q (b / 86_400 + k))
  pub hours : (m : ℕ) → m < 24 → contains p.hours m ≡ ((skips_hours q.frequency || (m == b / 3_600 % 24)) && lets q.hours m)
  pub minutes : (m : ℕ) → m < 60 → contains p.minutes m ≡ ((skips_minutes q.frequency || (m == b / 60 % 60)) && lets q.minutes m)
  pub seconds : (m : ℕ) → m < 60 → contains p.seconds m ≡ ((skips_seconds q.frequency || (m == b % 60)) && lets q.seconds m)

-- it contains what the rule lets in within the period between the two
module _ {q : EffectiveRule} {b e : ℕ} {p : RecurrencePeriod} (is : IsProduct q b e p) (n : ℕ) where
  day_holds : has_day p (n / 86_400) ≡ (day_test b e n && lets_date q (n / 86_400))
  day_holds = rw (is.first, is.days (n / 86_400 - b / 86_400)) (day_back _ _ _ (lets_date q))

  clock_holds : has_second p (n % 86_400)
      ≡ (((skips_hours q.frequency || (n / 3_600 % 24 == b / 3_600 % 24)) && (skips_minutes q.frequency || (n / 60 % 60 == b / 60 % 60))
      && (skips_seconds q.frequency || (n % 60 == b % 60))) && lets_clock q n)
  clock_holds = time_at p.hours p.minutes p.seconds n
      ∙ rw (is.hours (n / 3_600 % 24) (omega arith), is.minutes (n / 60 % 60) (omega arith), is.seconds (n % 60) (omega arith)) (grind arith)

product_is : (q : EffectiveRule) {number b e : ℕ} (p : RecurrencePeriod) → IsPeriodFrom q.frequency (monday_zero q.week_start) number b e
    → IsProduct q b e p → (n : ℕ) → holds p n ≡ is_let_in q number n
product_is q {number = number} {b = b} {e = e} p from is n =
    let span = ap (λ z. span_test q.frequency z e n) from.begin
    ∙ ap (λ z. span_test q.frequency (first_local q.frequency (monday_zero q.week_start) number) z n) from.end
    ∙ span_is q.frequency (monday_zero q.week_start) number n in
    rw (day_holds is n, clock_holds is n, ← span) (exchange (day_test b e n) (lets_date q (n / 86_400))
    ((skips_hours q.frequency || (n / 3_600 % 24 == b / 3_600 % 24)) && (skips_minutes q.frequency || (n / 60 % 60 == b / 60 % 60))
    && (skips_seconds q.frequency || (n % 60 == b % 60))) (lets_clock q n))

pub first_local-end-requires : goal.first_local-end-requires
first_local-end-requires c =
    let s = next_first c.args.parts.now.frequency (monday_zero c.args.parts.now.week_start) c.args.number (week_small c.args.parts.now.week_start)
    c.requires.low in
    omega (arith, s.1, c.requires.reach)

-- where the period begins and ends
from : (c : After-first_local-end) → IsPeriodFrom c.args.parts.now.frequency (monday_zero c.args.parts.now.week_start) c.args.number
    c.first_local-begin.result c.first_local-end.result
from c = grind arith

fits : (c : After-first_local-end) → (c.first_local-begin.result < c.first_local-end.result)
    × (c.first_local-end.result ≤ c.first_local-begin.result + 366 * 86_400)
fits c = period_fits (week_small c.args.parts.now.week_start) (from c)

pub overflow_add-len : goal.overflow_add-len
overflow_add-len c = let f = fits c in let early = (from c).early in omega (arith, f.1, early)

pub overflow_sub-len : goal.overflow_sub-len
overflow_sub-len c = let f = fits c in omega (arith, f.0)

pub overflow_cast-len : goal.overflow_cast-len
overflow_cast-len c = let f = fits c in omega (arith, f.1)

pub add_days_let_in-requires-clause-size : goal.add_days_let_in-requires-clause-size
add_days_let_in-requires-clause-size c = let f = fits (goal.at.add_days_let_in-requires-clause-size c).After-first_local-end in omega (arith, f.1)

pub add_days_let_in-requires-clause-span : goal.add_days_let_in-requires-clause-span
add_days_let_in-requires-clause-span c = period_span c.args.parts.now.frequency (monday_zero c.args.parts.now.week_start) c.args.number
    (from (goal.at.add_days_let_in-requires-clause-span c).After-first_local-end)

pub returns-clause-product : goal.returns-clause-product
returns-clause-product c = record {
  members = product_is c.args.parts.now record { number = c.args.number; first_day = _; days = _; hours = _; minutes = _; seconds = _ }
      (from (goal.at.returns-clause-product c).After-first_local-end) record {
        first = refl;
        days = c.add_days_let_in.ensures;
        hours = c.clock_of-clock.ensures.hours;
        minutes = c.clock_of-clock.ensures.minutes;
        seconds = c.clock_of-clock.ensures.seconds;
      };
  first = omega (arith, c.requires.reach, c.first_local-begin.ensures);
  hours = c.clock_of-clock.ensures.hours_bound;
  minutes = c.clock_of-clock.ensures.minutes_bound;
  seconds = c.clock_of-clock.ensures.seconds_bound;
}
