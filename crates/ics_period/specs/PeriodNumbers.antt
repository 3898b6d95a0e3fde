-- A local as one number, its time of day, and the periods that it is in (RFC 5545, 3.3.10).
use Rattle.std.specs.Prelude.{ℕ, ◌+◌, ◌-◌, ◌*◌, ◌/◌, ◌%◌}
use Rattle.ics_fields.specs.declared.frequency.Frequency.{Frequency}
use Rattle.ics_fields.specs.declared.frequency.Frequency.TheVariants.{Secondly, Minutely, Hourly, Daily, Weekly, Monthly, Yearly}
use Rattle.ics_fields.specs.Days.{days_before_year, year_of, month_of}
use Rattle.ics_fields.specs.Locals.{year_number}

-- its day, counted from 0000-01-01, and its hour, minute and second
abbrev pub day_of : ℕ → ℕ
day_of n = n / 86_400

abbrev pub hour_of : ℕ → ℕ
hour_of n = n / 3_600 % 24

abbrev pub minute_of : ℕ → ℕ
minute_of n = n / 60 % 60

abbrev pub second_of : ℕ → ℕ
second_of n = n % 60

-- the number of the week of day e, if weeks start on weekday w. Day 0 was a Saturday, so that e + (12 - w) counts days from a day with
-- weekday w
abbrev pub week_of : ℕ → ℕ → ℕ
week_of w e = (e + (12 - w)) / 7

-- the number of the month
abbrev pub month_number : ℕ → ℕ
month_number e = year_of e * 12 + month_of e

-- the number of a local's second, minute, hour, day, week from w, month or year
abbrev pub period : Frequency → ℕ → ℕ → ℕ
period Secondly w n = n
period Minutely w n = n / 60
period Hourly w n = n / 3_600
period Daily w n = day_of n
period Weekly w n = week_of w (day_of n)
period Monthly w n = month_number (day_of n)
period Yearly w n = year_of (day_of n)

-- 9801-01-01T00:00:00, the end of the rules
abbrev pub rules_end : ℕ
rules_end = year_number 9_801

-- the day before 1 January of a year
abbrev pub day_before : ℕ → ℕ
day_before year = days_before_year year - 1
