-- Months and years as runs of days, in which days and weekdays are numbered (RFC 5545, 3.3.10).
use Rattle.std.specs.Prelude.{◌≡◌, ℕ, ◌+◌, ◌-◌, ◌/◌, ◌%◌, ◌<◌, ◌≤◌, Bool, true, false, not, ◌&&◌, ◌||◌, nat_le, nat_lt, if◌then◌else◌, pos}
use Rattle.jiff_core.specs.Calendar.{days_in_month, days_in_year, days_of_months}
use Rattle.ics_fields.specs.declared.frequency.Frequency.{Frequency}
use Rattle.ics_fields.specs.declared.frequency.Frequency.TheVariants.{Secondly, Minutely, Hourly, Daily, Weekly, Monthly, Yearly}
use Rattle.ics_fields.specs.declared.ordinals.Side.{Side}
use Rattle.ics_fields.specs.declared.ordinals.Side.TheVariants.{Front, Back}
use Rattle.ics_fields.specs.declared.ordinals.Weekdays.{Weekdays}
use Rattle.ics_fields.specs.declared.ordinals.Ordinals.{Ordinals}
use Rattle.ics_fields.specs.Sets.{is_empty, contains}
use Rattle.ics_fields.specs.Ordinals.{lists_none, lists_none_wide, lists_no_weekday, numbers_of}
use Rattle.ics_fields.specs.Days.{days_before_year, year_of, month_of, month_day_of, weekday_of}
use Rattle.ics_period.specs.declared.effective_rule.EffectiveRule.{EffectiveRule}
use Rattle.ics_period.specs.declared.runs.Run.{Run}
use Rattle.ics_period.specs.Candidates.{lets, lists, lists_nth}
use Rattle.ics_period.specs.RecurrencePeriods.{month_start}

-- a month or a year, within the days of a period
pub record IsRun (r : Run) : Type 0 where
  pub weekday : r.weekday < 7
  pub some : 28 ≤ r.len
  pub most : r.len ≤ 366
  pub within : r.start + r.len ≤ 384

-- day m of a period is in a run
abbrev pub has_run : Run → ℕ → Bool
has_run r m = nat_le r.start m && nat_lt (m - r.start) r.len

-- the weekday of a run's day i, both counted from 0
abbrev pub weekday_in : Run → ℕ → ℕ
weekday_in r i = (r.weekday + i) % 7

-- BYDAY lists weekday d, or lists by number day n of a run of size days, which has that weekday
abbrev pub lists_weekday : Weekdays → ℕ → ℕ → ℕ → Bool
lists_weekday w d n size = contains w.plain d || lists_nth (numbers_of w d) n size

-- the run is month m of year y, in a period that begins at a first day
pub record IsMonth (r : Run) (first y m : ℕ) : Type 0 where
  pub year : y ≤ 9_999
  pub low : 1 ≤ m
  pub high : m ≤ 12
  pub place : first + r.start ≡ days_before_year y + days_of_months (pos y) (m - 1)
  pub size : r.len ≡ days_in_month (pos y) m
  pub weekday : r.weekday ≡ weekday_of (first + r.start)

-- BYMONTHDAY lists day n of a month of size days. If it is absent, BYDAY lists the day, whose weekday is d
abbrev pub lists_in_month : EffectiveRule → ℕ → ℕ → ℕ → Bool
lists_in_month q d n size = if lists_none q.month_days then lists_weekday q.weekdays d n size else lists q.month_days n size

-- day e is in a month that BYMONTH allows, and is listed there
abbrev pub is_in_month : EffectiveRule → ℕ → Bool
is_in_month q e =
    lets q.months (month_of e) && lists_in_month q (weekday_of e) (month_day_of e) (days_in_month (pos (year_of e)) (month_of e))

-- BYMONTHDAY or BYDAY is there, and neither BYYEARDAY nor BYWEEKNO
abbrev pub goes_by_months : EffectiveRule → Bool
goes_by_months q = lists_none q.weeks && lists_none_wide q.year_days && not (lists_none q.month_days && lists_no_weekday q.weekdays)

-- the numbers of BYDAY count in the month
abbrev pub counts_in_month : EffectiveRule → Frequency → Bool
counts_in_month q Monthly = true
counts_in_month q Yearly = not (is_empty q.months && lists_none q.month_days)
counts_in_month q Weekly = false
counts_in_month q Daily = false
counts_in_month q Hourly = false
counts_in_month q Minutely = false
counts_in_month q Secondly = false

-- the period with a number, a year or a month, has len days from a first
abbrev pub IsSpan : Frequency → ℕ → ℕ → ℕ → Type 0
IsSpan Yearly p first len = (p ≤ 9_999) × ((first ≡ days_before_year p) × (len ≡ days_in_year (pos p)))
IsSpan Monthly p first len = (1 ≤ p) × (((p - 1) / 12 ≤ 9_999) × ((first ≡ month_start p) × (len ≡ days_in_month (pos ((p - 1) / 12)) ((p - 1) % 12 + 1))))
IsSpan Weekly p first len = Unit {0}
IsSpan Daily p first len = Unit {0}
IsSpan Hourly p first len = Unit {0}
IsSpan Minutely p first len = Unit {0}
IsSpan Secondly p first len = Unit {0}

-- week n of a year of 52 weeks, or of 53, is listed
abbrev pub may_list_week : Ordinals → ℕ → Bool
may_list_week w n = contains w.front n || contains w.back (53 - n) || contains w.back (54 - n)

-- the number, from an end, of day m of a year of len days
abbrev pub number_from : Side → ℕ → ℕ → ℕ
number_from Front m len = m + 1
number_from Back m len = len - m
