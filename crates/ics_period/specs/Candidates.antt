-- Which locals the parts of a rule but BYSETPOS, COUNT and UNTIL allow (RFC 5545, 3.3.10).
use Rattle.std.specs.Prelude.{◌≡◌, ℕ, ◌+◌, ◌-◌, ◌*◌, ◌/◌, ◌%◌, Bool, not, ◌&&◌, ◌||◌, ◌==◌, nat_le, nat_lt, if◌then◌else◌, pos, false}
use Rattle.jiff_core.specs.Calendar.{days_in_month, days_in_year}
use Rattle.jiff_core.specs.Weekday.{monday_zero}
use Rattle.ics_fields.specs.declared.frequency.Frequency.{Frequency}
use Rattle.ics_fields.specs.declared.frequency.Frequency.TheVariants.{Secondly, Minutely, Hourly, Daily, Weekly, Monthly, Yearly}
use Rattle.ics_fields.specs.declared.ordinals.Ordinals.{Ordinals}
use Rattle.ics_fields.specs.declared.ordinals.WideOrdinals.{WideOrdinals}
use Rattle.ics_fields.specs.Sets.{is_empty, contains, contains_wide}
use Rattle.ics_fields.specs.Ordinals.{lists_none, lists_none_wide, lists_no_weekday, numbers_of}
use Rattle.ics_fields.specs.Days.{year_of, year_day_of, month_of, month_day_of, weekday_of}
use Rattle.ics_period.specs.declared.effective_rule.EffectiveRule.{EffectiveRule}
use Rattle.ics_period.specs.Recurrence.{Recurrence}
use Rattle.ics_period.specs.PeriodNumbers.{day_of, hour_of, minute_of, second_of, week_of, period}
use Rattle.ics_fields.specs.Locals.{number}
use Rattle.ics_period.specs.EffectiveRules.{effective}

-- a part allows a number if it is absent or lists it
abbrev pub lets : ℕ → ℕ → Bool
lets s n = is_empty s || contains s n

-- the part lists n of the numbers 1 to size, of which n is also number size + 1 - n from the end
abbrev pub lists : Ordinals → ℕ → ℕ → Bool
lists p n size = contains p.front n || contains p.back (size + 1 - n)

abbrev pub lists_wide : WideOrdinals → ℕ → ℕ → Bool
lists_wide p n size = contains_wide p.front n || contains_wide p.back (size + 1 - n)

abbrev pub lets_place : Ordinals → ℕ → ℕ → Bool
lets_place p n size = lists_none p || lists p n size

abbrev pub lets_wide_place : WideOrdinals → ℕ → ℕ → Bool
lets_wide_place p n size = lists_none_wide p || lists_wide p n size

-- the week of day e, starting on weekday w, belongs to the year of its fourth day. If it begins before year 0000, that day is taken 400 years
-- later: these are 146,097 days, a whole number of weeks, and the calendar repeats after them
abbrev pub fourth_day : ℕ → ℕ → ℕ
fourth_day w e = if nat_lt (7 * week_of w e + w) 9 then 7 * week_of w e + w + 146_088 else 7 * week_of w e + w - 9

-- the number of the week in that year; f is its fourth day
abbrev pub week_number : ℕ → ℕ
week_number f = (year_day_of f - 1) / 7 + 1

-- how many weeks that year has: the number of its last week, whose fourth day is the last of the year in steps of seven from f
abbrev pub weeks_of_year : ℕ → ℕ
weeks_of_year f = (days_in_year (pos (year_of f)) - 1 - (year_day_of f - 1) % 7) / 7 + 1

-- the part lists the rank of day n, of the days 1 to size, among those of its weekday, counted from the start or from the end
abbrev pub lists_nth : Ordinals → ℕ → ℕ → Bool
lists_nth p n size = contains p.front ((n - 1) / 7 + 1) || contains p.back ((size - n) / 7 + 1)

-- p are the numbers of the weekday of day e. They count in the month under MONTHLY. Under YEARLY without BYWEEKNO they count in the month with
-- BYMONTH, and else in the year. Elsewhere a weekday with a number means the weekday (our choice)
abbrev pub lets_numbered : Frequency → EffectiveRule → Ordinals → ℕ → Bool
lets_numbered Monthly q p e = lists_nth p (month_day_of e) (days_in_month (pos (year_of e)) (month_of e))
lets_numbered Yearly q p e =
    if not (lists_none q.weeks) then not (lists_none p)
    else (if not (is_empty q.months) then lists_nth p (month_day_of e) (days_in_month (pos (year_of e)) (month_of e))
    else lists_nth p (year_day_of e) (days_in_year (pos (year_of e))))
lets_numbered Weekly q p e = not (lists_none p)
lets_numbered Daily q p e = not (lists_none p)
lets_numbered Hourly q p e = not (lists_none p)
lets_numbered Minutely q p e = not (lists_none p)
lets_numbered Secondly q p e = not (lists_none p)

-- a list with and without numbers is a union
abbrev pub lets_weekday : EffectiveRule → ℕ → Bool
lets_weekday q e =
    lists_no_weekday q.weekdays || contains q.weekdays.plain (weekday_of e)
    || lets_numbered q.frequency q (numbers_of q.weekdays (weekday_of e)) e

abbrev pub lets_week : EffectiveRule → ℕ → Bool
lets_week q e =
    lets_place q.weeks (week_number (fourth_day (monday_zero q.week_start) e)) (weeks_of_year (fourth_day (monday_zero q.week_start) e))

-- each part of a effective rule that restricts the date allows day e, under every frequency (where RFC 5545 has N/A this is our choice)
abbrev pub lets_date : EffectiveRule → ℕ → Bool
lets_date q e =
    lets q.months (month_of e)
    && lets_place q.month_days (month_day_of e) (days_in_month (pos (year_of e)) (month_of e))
    && lets_wide_place q.year_days (year_day_of e) (days_in_year (pos (year_of e)))
    && lets_week q e && lets_weekday q e

-- each part that restricts the time of day allows local n
abbrev pub lets_clock : EffectiveRule → ℕ → Bool
lets_clock q n = lets q.hours (hour_of n) && lets q.minutes (minute_of n) && lets q.seconds (second_of n)

-- the number of the period of local n, under a rule
abbrev pub period_in : EffectiveRule → ℕ → ℕ
period_in q n = period q.frequency (monday_zero q.week_start) n

-- p is first or later, by a multiple of the interval
abbrev pub is_stepped : ℕ → ℕ → ℕ → Bool
is_stepped first interval p = nat_le first p && (p - first) % interval == 0

-- the rule allows no local of the period with a number
abbrev pub IsClosed : EffectiveRule → ℕ → Type 0
IsClosed q p = (n : ℕ) → period_in q n ≡ p → (lets_date q (day_of n) && lets_clock q n) ≡ false

-- the period of n is that of the start or later, by a multiple of the interval
abbrev pub in_step : EffectiveRule → ℕ → ℕ → Bool
in_step q start n = is_stepped (period_in q start) q.interval (period_in q n)

-- n is a candidate of a effective rule
abbrev pub is_candidate_in : EffectiveRule → ℕ → ℕ → Bool
is_candidate_in q start n = in_step q start n && lets_date q (day_of n) && lets_clock q n

unfoldable pub is_candidate : Recurrence → ℕ → Bool
is_candidate r n = is_candidate_in (effective r) (number r.start) n
