-- The locals of a period, and a period as a product of sets.
use Rattle.std.specs.Prelude.{◌≡◌, ℕ, ◌+◌, ◌-◌, ◌*◌, ◌/◌, ◌%◌, ◌^◌, ◌<◌, ◌≤◌, Bool, ◌&&◌, ◌==◌, nat_le, pos, true, false, Option, MatchOption}
use Rattle.jiff_core.specs.Calendar.{days_of_months}
use Rattle.ics_fields.specs.Days.{days_before_year}
use Rattle.ics_fields.specs.Sets.{contains, contains_wide, IsLeastFrom}
use Rattle.ics_fields.specs.declared.frequency.Frequency.{Frequency}
use Rattle.ics_fields.specs.declared.frequency.Frequency.TheVariants.{Secondly, Minutely, Hourly, Daily, Weekly, Monthly, Yearly}
use Rattle.ics_fields.specs.declared.ordinals.WideOrdinals.{WideOrdinals}
use Rattle.ics_period.specs.declared.effective_rule.EffectiveRule.{EffectiveRule}
use Rattle.ics_period.specs.declared.recurrence_period.RecurrencePeriod.{RecurrencePeriod}
use Rattle.ics_period.specs.PeriodNumbers.{day_of}
use Rattle.ics_period.specs.Candidates.{lets_date, lets_clock, lists_wide, period_in}
use Rattle.ics_period.specs.Ranks.{count}
use Rattle.ics_fields.specs.Locals.{calendar_end}

-- the first day of the month with a number
abbrev pub month_start : ℕ → ℕ
month_start p = days_before_year ((p - 1) / 12) + days_of_months (pos ((p - 1) / 12)) ((p - 1) % 12)

-- the first local of the period with a number
abbrev pub first_local : Frequency → ℕ → ℕ → ℕ
first_local Secondly w p = p
first_local Minutely w p = p * 60
first_local Hourly w p = p * 3_600
first_local Daily w p = p * 86_400
first_local Weekly w p = (7 * p - (12 - w)) * 86_400
first_local Monthly w p = month_start p * 86_400
first_local Yearly w p = days_before_year p * 86_400

-- a minute of a day is in a set of hours times a set of minutes
abbrev pub has_minute : ℕ → ℕ → ℕ → Bool
has_minute hours minutes m = contains hours (m / 60) && contains minutes (m % 60)

-- a second of a day is in sets of hours, minutes and seconds
abbrev pub has_time : ℕ → ℕ → ℕ → ℕ → Bool
has_time hours minutes seconds t = has_minute hours minutes (t / 60) && contains seconds (t % 60)

abbrev pub has_second : RecurrencePeriod → ℕ → Bool
has_second p t = has_time p.hours p.minutes p.seconds t

-- a day is in the period's set of days, which counts them from its first
abbrev pub has_day : RecurrencePeriod → ℕ → Bool
has_day p e = nat_le p.first_day e && contains_wide p.days (e - p.first_day)

-- a local is in the product
abbrev pub holds : RecurrencePeriod → ℕ → Bool
holds p n = has_day p (n / 86_400) && has_second p (n % 86_400)

-- local n is in the period with a number, and the rule allows it
abbrev pub is_let_in : EffectiveRule → ℕ → ℕ → Bool
is_let_in q number n = period_in q n == number && (lets_date q (day_of n) && lets_clock q n)

-- the product is a period of a effective rule: it has what the rule allows there
pub record IsPeriodOf (q : EffectiveRule) (p : RecurrencePeriod) : Type 0 where
  pub members : (n : ℕ) → holds p n ≡ is_let_in q p.number n
  pub first : p.first_day ≤ 3_600_000
  pub hours : p.hours < 2 ^ 24
  pub minutes : p.minutes < 2 ^ 60
  pub seconds : p.seconds < 2 ^ 60

-- n passes the test, and k numbers before it do
pub record IsNth (test : ℕ → Bool) (k n : ℕ) : Type 0 where
  pub passes : test n ≡ true
  pub before : count n test ≡ k

-- BYSETPOS lists the place of the k-th of size members, counted from 0
abbrev pub is_listed : WideOrdinals → ℕ → ℕ → Bool
is_listed positions size k = lists_wide positions (k + 1) size

-- a local is in the product, at a place that BYSETPOS lists, or anywhere if BYSETPOS is absent
abbrev pub is_taken : WideOrdinals → Bool → RecurrencePeriod → ℕ → Bool
is_taken positions true p n = holds p n
is_taken positions false p n = holds p n && is_listed positions (count calendar_end (holds p)) (count n (holds p))

-- the answer is the least number, from a given one on and below a size, that passes, or None if there is none
abbrev pub IsNextBelow : (ℕ → Bool) → ℕ → ℕ → Option ℕ → Type 0
IsNextBelow test from size o =
    MatchOption o ((k : ℕ) → from ≤ k → k < size → test k ≡ false) (λ k. IsLeastFrom test from k × (k < size))

-- the first index, from a given one on, that passes a test, or size
pub record IsFirstBelow (test : ℕ → Bool) (from size end : ℕ) : Type 0 where
  pub none : (k : ℕ) → from ≤ k → k < end → test k ≡ false
  pub high : end ≤ size
  pub found : end < size → (from ≤ end) × (test end ≡ true)
