-- The plain reading of a rule, as in the documentation of python-dateutil: each part is a filter on the locals from DTSTART on.
use Rattle.std.specs.Prelude.{◌≡◌, ℕ, suc, ◌+◌, ◌-◌, ◌%◌, ◌≤◌, Bool, true, false, ◌&&◌, ◌||◌, ◌==◌, nat_le, nat_lt, if◌then◌else◌, Option, Some, None}
use Rattle.std.specs.Prelude.{MatchOption}
use Rattle.jiff_core.specs.Weekday.{monday_zero}
use Rattle.ics_fields.specs.declared.frequency.Frequency.{Frequency}
use Rattle.ics_fields.specs.declared.frequency.Frequency.TheVariants.{Weekly, Monthly, Yearly}
use Rattle.ics_fields.specs.declared.ordinals.Ordinals.{Ordinals}
use Rattle.ics_fields.specs.declared.ordinals.WideOrdinals.{WideOrdinals}
use Rattle.ics_fields.specs.Sets.{contains, contains_wide}
use Rattle.ics_fields.specs.Ordinals.{lists_none, numbers_of}
use Rattle.ics_fields.specs.Days.{year_of, month_of, month_day_of, weekday_of}
use Rattle.ics_period.specs.declared.kind.Kind.TheVariants.{Date}
use Rattle.ics_period.specs.Recurrence.{Recurrence}
use Rattle.ics_period.specs.PeriodNumbers.{day_of, hour_of, minute_of, second_of, period}
use Rattle.ics_fields.specs.Locals.{number, calendar_end}
use Rattle.ics_period.specs.EffectiveRules.{skips_hours, skips_minutes, skips_seconds}
use Rattle.ics_period.specs.Ranks.{count}
use Rattle.ics_rule.specs.UntilBounds.{is_bounded}
use Rattle.ics_rule.specs.Table.{Part, ByMonth, ByWeekNo, ByYearDay, ByMonthDay, ByDay, ByHour, ByMinute, BySecond, BySetPos}
use Rattle.ics_rule.specs.ByTable.{is_absent, weekday_unit}

-- n is the k-th of those that pass, counted from the first or, if the number has a minus, from the last
abbrev pub is_nth : (ℕ → Bool) → (ℕ → Bool) → (ℕ → Bool) → ℕ → Bool
is_nth plus minus test n = plus (count (suc n) test) || minus (count calendar_end test - count n test)

abbrev pub is_place : Ordinals → (ℕ → Bool) → ℕ → Bool
is_place p = is_nth (contains p.front) (contains p.back)

abbrev pub is_wide_place : WideOrdinals → (ℕ → Bool) → ℕ → Bool
is_wide_place p = is_nth (contains_wide p.front) (contains_wide p.back)

-- What is missing is extracted from DTSTART if it is finer than the frequency. What it says of the date is extracted only if no part names a
-- week or a day.
abbrev pub is_dayless : Recurrence → Bool
is_dayless r = is_absent r ByMonthDay && is_absent r ByYearDay && is_absent r ByDay && is_absent r ByWeekNo

abbrev pub is_extracted : Recurrence → Frequency → Part → Bool
is_extracted r Yearly ByMonth = is_dayless r
is_extracted r Yearly ByMonthDay = is_dayless r
is_extracted r Monthly ByMonthDay = is_dayless r
is_extracted r Weekly ByDay = is_dayless r
is_extracted r frequency ByHour = skips_hours frequency
is_extracted r frequency ByMinute = skips_minutes frequency
is_extracted r frequency BySecond = skips_seconds frequency
is_extracted r frequency part = false

-- A part allows what it lists. If it is absent, it allows the value of DTSTART or, if that is not extracted, all values.
abbrev pub applies : Recurrence → Part → Bool → Bool → Bool
applies r part listed own = if is_absent r part then (if is_extracted r r.parts.frequency part then own else true) else listed

-- BYMONTH: the months to apply the recurrence to
abbrev pub month_applies : Recurrence → ℕ → Bool
month_applies r n = applies r ByMonth (contains r.parts.months (month_of (day_of n))) (month_of (day_of n) == month_of (day_of (number r.start)))

-- BYMONTHDAY: the days of the month
abbrev pub in_year : ℕ → ℕ → Bool
in_year e f = year_of f == year_of e

abbrev pub in_month : ℕ → ℕ → Bool
in_month e f = in_year e f && month_of f == month_of e

abbrev pub month_day_applies : Recurrence → ℕ → Bool
month_day_applies r n =
    applies r ByMonthDay (is_place r.parts.month_days (in_month (day_of n)) (day_of n)) (month_day_of (day_of n) == month_day_of (day_of (number r.start)))

-- BYYEARDAY: the days of the year
abbrev pub year_day_applies : Recurrence → ℕ → Bool
year_day_applies r n = applies r ByYearDay (is_wide_place r.parts.year_days (in_year (day_of n)) (day_of n)) true

-- BYDAY: the weekdays, or the nth occurrence of a weekday, in the month under MONTHLY and with BYMONTH, and else in the year
abbrev pub with_weekday : (ℕ → ℕ → Bool) → ℕ → ℕ → Bool
with_weekday unit e f = weekday_of f == weekday_of e && unit e f

abbrev pub weekday_period : Recurrence → Frequency → ℕ → ℕ → Bool
weekday_period r Monthly = in_month
weekday_period r other = if is_absent r ByMonth then in_year else in_month

abbrev pub is_weekday : Recurrence → ℕ → Bool
is_weekday r e =
    contains r.parts.weekdays.plain (weekday_of e)
    || is_place (numbers_of r.parts.weekdays (weekday_of e)) (with_weekday (weekday_period r r.parts.frequency) e) e

abbrev pub weekday_applies : Recurrence → ℕ → Bool
weekday_applies r n = applies r ByDay (is_weekday r (day_of n)) (weekday_of (day_of n) == weekday_of (day_of (number r.start)))

-- BYWEEKNO: the weeks of the year, of which the first has at least four days in it. So a week belongs to the year of its fourth day. This day is
-- taken 400 years, or 146,097 days, later, since the first day of year 0000 is in a week of the year before
abbrev pub fourth_of_week : ℕ → ℕ → ℕ
fourth_of_week start e = e + 146_100 - (weekday_of e + (7 - start)) % 7

abbrev pub is_week : Ordinals → ℕ → Bool
is_week weeks f = is_place weeks (with_weekday in_year f) f

abbrev pub week_applies : Recurrence → ℕ → Bool
week_applies r n = applies r ByWeekNo (is_week r.parts.weeks (fourth_of_week (monday_zero r.parts.week_start) (day_of n))) true

-- BYHOUR, BYMINUTE and BYSECOND: the hours, minutes and seconds
abbrev pub hour_applies : Recurrence → ℕ → Bool
hour_applies r n = applies r ByHour (contains r.parts.hours (hour_of n)) (hour_of n == hour_of (number r.start))

abbrev pub minute_applies : Recurrence → ℕ → Bool
minute_applies r n = applies r ByMinute (contains r.parts.minutes (minute_of n)) (minute_of n == minute_of (number r.start))

abbrev pub second_applies : Recurrence → ℕ → Bool
second_applies r n = applies r BySecond (contains r.parts.seconds (second_of n)) (second_of n == second_of (number r.start))

abbrev pub all_apply : Recurrence → ℕ → Bool
all_apply r n =
    (month_applies r n && month_day_applies r n && year_day_applies r n && week_applies r n && weekday_applies r n)
    && (hour_applies r n && minute_applies r n && second_applies r n)

-- FREQ and INTERVAL: each INTERVAL-th period from that of DTSTART on
abbrev pub period_at : Recurrence → ℕ → ℕ
period_at r n = period r.parts.frequency (monday_zero r.parts.week_start) n

abbrev pub frequency_applies : Recurrence → ℕ → Bool
frequency_applies r n = (period_at r n - period_at r (number r.start)) % r.parts.interval == 0

-- BYSETPOS: the nth occurrence of the rule inside the frequency period
abbrev pub occurs_in : Recurrence → ℕ → ℕ → Bool
occurs_in r p n = period_at r n == p && all_apply r n

abbrev pub position_applies : Recurrence → ℕ → Bool
position_applies r n = is_absent r BySetPos || is_wide_place r.parts.positions (occurs_in r (period_at r n)) n

-- a local from DTSTART on that each part allows
abbrev pub is_plain_member : Recurrence → ℕ → Bool
is_plain_member r n = nat_le (number r.start) n && (frequency_applies r n && (all_apply r n && position_applies r n))

-- COUNT: at most that many of them
abbrev pub is_few_members : Recurrence → Option ℕ → ℕ → Bool
is_few_members r None n = true
is_few_members r (Some c) n = nat_lt (count n (is_plain_member r)) c

-- UNTIL: the last is the greatest that is less than or equal to it
abbrev pub is_plainly_kept : Recurrence → ℕ → Bool
is_plainly_kept r n = is_plain_member r n && is_bounded r n && is_few_members r r.parts.count n

-- The rules for which the plain reading is ours. DTSTART fits the rule, since dateutil leaves it out if it does not, and UNTIL and COUNT keep
-- it. A weekday has a number only under MONTHLY and under YEARLY without BYWEEKNO. Plainly read, DTSTART gives no weekday if the rule names a
-- week or a day. For us it does under WEEKLY without BYDAY and under YEARLY with BYWEEKNO alone, so these are excluded. An event of dates, which
-- dateutil does not know, has a frequency not finer than DAILY and starts at midnight.
pub record HasPlainReading (r : Recurrence) : Type 0 where
  pub fits : is_plain_member r (number r.start) ≡ true
  pub in_until : is_bounded r (number r.start) ≡ true
  pub counted : MatchOption r.parts.count (Unit {0}) (λ c. 1 ≤ c)
  pub numbers : weekday_unit r r.parts.frequency ≡ Weekly → (w : ℕ) → lists_none (numbers_of r.parts.weekdays w) ≡ true
  pub weekly : r.parts.frequency ≡ Weekly → is_absent r ByDay ≡ true → is_dayless r ≡ true
  pub yearly : r.parts.frequency ≡ Yearly → (is_absent r ByMonthDay && is_absent r ByYearDay && is_absent r ByDay) ≡ true → is_dayless r ≡ true
  pub dates : r.kind ≡ Date → (skips_hours r.parts.frequency ≡ true) × (r.start.second ≡ 0)
