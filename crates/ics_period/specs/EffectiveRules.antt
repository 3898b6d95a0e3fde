-- A rule that takes what it leaves out from the start of its event (RFC 5545, 3.3.10). In which cases it does is our choice.
use Rattle.std.specs.Prelude.{ℕ, Bool, true, false, not, ◌&&◌, if◌then◌else◌}
use Rattle.ics_fields.specs.declared.frequency.Frequency.{Frequency}
use Rattle.ics_fields.specs.declared.frequency.Frequency.TheVariants.{Secondly, Minutely, Hourly, Daily, Weekly, Monthly, Yearly}
use Rattle.ics_fields.specs.declared.ordinals.Ordinals.{Ordinals}
use Rattle.ics_fields.specs.declared.ordinals.Weekdays.{Weekdays}
use Rattle.ics_fields.specs.Sets.{is_empty, only}
use Rattle.ics_fields.specs.Ordinals.{no_weekdays, lists_none, lists_none_wide, lists_no_weekday}
use Rattle.ics_fields.specs.RuleParts.{RuleParts}
use Rattle.ics_fields.specs.Days.{month_of, month_day_of, weekday_of}
use Rattle.ics_period.specs.declared.kind.Kind.{Kind}
use Rattle.ics_period.specs.declared.kind.Kind.TheVariants.{Date, DateTime}
use Rattle.ics_period.specs.declared.effective_rule.EffectiveRule.{EffectiveRule}
use Rattle.ics_period.specs.Recurrence.{Recurrence}
use Rattle.ics_period.specs.PeriodNumbers.{day_of, hour_of, minute_of, second_of}
use Rattle.ics_fields.specs.Locals.{number}

-- BYYEARDAY, BYMONTHDAY and BYDAY are absent
abbrev pub names_no_day : RuleParts → Bool
names_no_day p = lists_none p.month_days && lists_none_wide p.year_days && lists_no_weekday p.weekdays

-- a yearly or monthly rule that names neither a day nor a week takes the day of the month
abbrev pub takes_month_day : Frequency → RuleParts → Bool
takes_month_day Yearly p = names_no_day p && lists_none p.weeks
takes_month_day Monthly p = names_no_day p && lists_none p.weeks
takes_month_day Weekly p = false
takes_month_day Daily p = false
takes_month_day Hourly p = false
takes_month_day Minutely p = false
takes_month_day Secondly p = false

-- and a yearly one that has no BYMONTH takes the month too
abbrev pub takes_month : Frequency → RuleParts → Bool
takes_month Yearly p = takes_month_day Yearly p && is_empty p.months
takes_month Monthly p = false
takes_month Weekly p = false
takes_month Daily p = false
takes_month Hourly p = false
takes_month Minutely p = false
takes_month Secondly p = false

-- a yearly rule that names weeks and no day takes the weekday, and so does a weekly one without BYDAY
abbrev pub takes_weekday : Frequency → RuleParts → Bool
takes_weekday Yearly p = names_no_day p && not (lists_none p.weeks)
takes_weekday Monthly p = false
takes_weekday Weekly p = lists_no_weekday p.weekdays
takes_weekday Daily p = false
takes_weekday Hourly p = false
takes_weekday Minutely p = false
takes_weekday Secondly p = false

-- whether a frequency is coarser than the hour, the minute, the second
abbrev pub skips_hours : Frequency → Bool
skips_hours Yearly = true
skips_hours Monthly = true
skips_hours Weekly = true
skips_hours Daily = true
skips_hours Hourly = false
skips_hours Minutely = false
skips_hours Secondly = false

abbrev pub skips_minutes : Frequency → Bool
skips_minutes Hourly = true
skips_minutes Minutely = false
skips_minutes Secondly = false
skips_minutes f = skips_hours f

abbrev pub skips_seconds : Frequency → Bool
skips_seconds Minutely = true
skips_seconds Secondly = false
skips_seconds f = skips_minutes f

-- a part of the time: the set s or, if it is absent and the frequency is coarser than the unit, n alone. A date is at midnight, whatever the
-- rule says
abbrev pub clock_part : Kind → Bool → ℕ → ℕ → ℕ
clock_part Date takes s n = only 0
clock_part DateTime takes s n = if takes && is_empty s then only n else s

-- day n of the month alone, and weekday w alone
abbrev pub only_place : ℕ → Ordinals
only_place n = record { front = only n; back = 0 }

abbrev pub only_weekday : ℕ → Weekdays
only_weekday w = record no_weekdays { plain = only w }

-- the rule p of an event that starts at local n
abbrev pub effective_at : RuleParts → Kind → ℕ → EffectiveRule
effective_at p kind n = record {
  frequency = p.frequency;
  interval = p.interval;
  week_start = p.week_start;
  months = if takes_month p.frequency p then only (month_of (day_of n)) else p.months;
  month_days = if takes_month_day p.frequency p then only_place (month_day_of (day_of n)) else p.month_days;
  year_days = p.year_days;
  weeks = p.weeks;
  weekdays = if takes_weekday p.frequency p then only_weekday (weekday_of (day_of n)) else p.weekdays;
  hours = clock_part kind (skips_hours p.frequency) p.hours (hour_of n);
  minutes = clock_part kind (skips_minutes p.frequency) p.minutes (minute_of n);
  seconds = clock_part kind (skips_seconds p.frequency) p.seconds (second_of n);
  positions = p.positions;
}

unfoldable pub effective : Recurrence → EffectiveRule
effective r = effective_at r.parts r.kind (number r.start)
