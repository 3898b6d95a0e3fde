-- Which locals a rule keeps by the table of expansion and limits: the parts applied one after the other (RFC 5545, 3.3.10).
use Rattle.std.specs.Prelude.{◌≡◌, ℕ, suc, ◌-◌, Bool, true, false, not, ◌&&◌, ◌||◌, ◌==◌, nat_lt, if◌then◌else◌, [], ◌∷◌, fold, Option, Some, None, pos}
use Rattle.jiff_core.specs.Calendar.{days_in_month, days_in_year}
use Rattle.jiff_core.specs.Weekday.{monday_zero}
use Rattle.ics_fields.specs.declared.frequency.Frequency.{Frequency}
use Rattle.ics_fields.specs.declared.frequency.Frequency.TheVariants.{Secondly, Minutely, Hourly, Daily, Weekly, Monthly, Yearly}
use Rattle.ics_fields.specs.declared.ordinals.Ordinals.{Ordinals}
use Rattle.ics_fields.specs.declared.ordinals.WideOrdinals.{WideOrdinals}
use Rattle.ics_fields.specs.Days.{year_of, year_day_of, month_of, month_day_of, weekday_of}
use Rattle.ics_fields.specs.Sets.{is_empty, contains, contains_wide}
use Rattle.ics_fields.specs.Ordinals.{lists_none, lists_none_wide, lists_no_weekday, numbers_of}
use Rattle.ics_fields.specs.RuleParts.{RuleParts}
use Rattle.ics_period.specs.declared.kind.Kind.{Kind}
use Rattle.ics_period.specs.declared.kind.Kind.TheVariants.{Date, DateTime}
use Rattle.ics_period.specs.Recurrence.{Recurrence}
use Rattle.ics_period.specs.PeriodNumbers.{day_of, hour_of, minute_of, second_of, period, rules_end}
use Rattle.ics_fields.specs.Locals.{number, calendar_end}
use Rattle.ics_period.specs.EffectiveRules.{skips_hours}
use Rattle.ics_period.specs.Candidates.{lists, lists_wide, lists_nth, fourth_day, week_number, weeks_of_year, is_stepped}
use Rattle.ics_period.specs.Ranks.{count}
use Rattle.ics_rule.specs.UntilBounds.{is_bounded}
use Rattle.ics_rule.specs.Table.{Part, ByMonth, ByWeekNo, ByYearDay, ByMonthDay, ByDay, ByHour, ByMinute, BySecond, BySetPos, Cell, Nothing, Limit, Expand}
use Rattle.ics_rule.specs.Table.{Note1, Note2, cell}

-- An instance by its fields, which need not agree: no local is the instance 30 February, and so it is ignored. A week belongs to the year of
-- its fourth day.
pub record Instance : Type 0 where
  pub period : ℕ
  pub year : ℕ
  pub month : ℕ
  pub week : ℕ
  pub year_day : ℕ
  pub month_day : ℕ
  pub weekday : ℕ
  pub hour : ℕ
  pub minute : ℕ
  pub second : ℕ

-- a set of instances
abbrev pub Instances : Type 0
Instances = Instance → Bool

-- local n by its fields
abbrev pub instance_of : RuleParts → ℕ → Instance
instance_of p n = record {
  period = period p.frequency (monday_zero p.week_start) n;
  year = year_of (day_of n);
  month = month_of (day_of n);
  week = fourth_day (monday_zero p.week_start) (day_of n);
  year_day = year_day_of (day_of n);
  month_day = month_day_of (day_of n);
  weekday = weekday_of (day_of n);
  hour = hour_of n;
  minute = minute_of n;
  second = second_of n;
}

abbrev pub start_of : Recurrence → Instance
start_of r = instance_of r.parts (number r.start)

-- dates have no time of day
abbrev pub is_clockless : Kind → Bool
is_clockless Date = true
is_clockless DateTime = false

-- the rule has no such part. The parts of the time are ignored if DTSTART is a date
abbrev pub is_absent : Recurrence → Part → Bool
is_absent r ByMonth = is_empty r.parts.months
is_absent r ByWeekNo = lists_none r.parts.weeks
is_absent r ByYearDay = lists_none_wide r.parts.year_days
is_absent r ByMonthDay = lists_none r.parts.month_days
is_absent r ByDay = lists_no_weekday r.parts.weekdays
is_absent r ByHour = is_clockless r.kind || is_empty r.parts.hours
is_absent r ByMinute = is_clockless r.kind || is_empty r.parts.minutes
is_absent r BySecond = is_clockless r.kind || is_empty r.parts.seconds
is_absent r BySetPos = lists_none_wide r.parts.positions

-- The unit in which BYDAY counts its weekdays. Under YEARLY it is the week with BYWEEKNO, else the month with BYMONTH, and else the year. A
-- week or less has each weekday at most once, so no number is allowed there.
abbrev pub weekday_unit : Recurrence → Frequency → Frequency
weekday_unit r Yearly = if not (is_absent r ByWeekNo) then Weekly else (if not (is_absent r ByMonth) then Monthly else Yearly)
weekday_unit r Monthly = Monthly
weekday_unit r frequency = Weekly

abbrev pub lists_nth_in : Frequency → Ordinals → Instances
lists_nth_in Yearly numbers i = lists_nth numbers i.year_day (days_in_year (pos i.year))
lists_nth_in Monthly numbers i = lists_nth numbers i.month_day (days_in_month (pos i.year) i.month)
lists_nth_in unit numbers i = false

-- the part lists an instance. BYSETPOS is not one of these: it lists places in the whole set
abbrev pub is_listed : Recurrence → Part → Instances
is_listed r ByMonth i = contains r.parts.months i.month
is_listed r ByWeekNo i = lists r.parts.weeks (week_number i.week) (weeks_of_year i.week)
is_listed r ByYearDay i = lists_wide r.parts.year_days i.year_day (days_in_year (pos i.year))
is_listed r ByMonthDay i = lists r.parts.month_days i.month_day (days_in_month (pos i.year) i.month)
is_listed r ByDay i =
    contains r.parts.weekdays.plain i.weekday
    || lists_nth_in (weekday_unit r r.parts.frequency) (numbers_of r.parts.weekdays i.weekday) i
is_listed r ByHour i = contains r.parts.hours i.hour
is_listed r ByMinute i = contains r.parts.minutes i.minute
is_listed r BySecond i = contains r.parts.seconds i.second
is_listed r BySetPos i = true

-- The period's own instance: DTSTART, s, gives the fields that are finer than the period.
abbrev pub has_clock : Instance → Instances
has_clock s i = i.hour == s.hour && (i.minute == s.minute && i.second == s.second)

abbrev pub own_instance : Frequency → Instance → Instances
own_instance Yearly s i = i.month == s.month && (i.month_day == s.month_day && has_clock s i)
own_instance Monthly s i = i.month_day == s.month_day && has_clock s i
own_instance Weekly s i = i.weekday == s.weekday && has_clock s i
own_instance Daily s i = has_clock s i
own_instance Hourly s i = i.minute == s.minute && i.second == s.second
own_instance Minutely s i = i.second == s.second
own_instance Secondly s i = true

-- Limit: an instance stays if the part lists it.
abbrev pub limit : Recurrence → Part → Instances → Instances
limit r part set i = is_listed r part i && set i

-- an instance on the day that DTSTART gives in its year or, with BYMONTH, in its month
abbrev pub on_own_day : Recurrence → Instance → Instance
on_own_day r i = record i {
  month = if is_absent r ByMonth then (start_of r).month else i.month;
  month_day = (start_of r).month_day;
  weekday = (start_of r).weekday;
}

-- an instance with the fields that the part gives as DTSTART gives them
abbrev pub before : Recurrence → Part → Instance → Instance
before r ByMonth i = record i { month = (start_of r).month }
before r ByHour i = record i { hour = (start_of r).hour }
before r ByMinute i = record i { minute = (start_of r).minute }
before r BySecond i = record i { second = (start_of r).second }
before r part i = on_own_day r i

-- what an expansion gives; BYWEEKNO gives DTSTART's weekday in its weeks
abbrev pub gives : Recurrence → Part → Instances
gives r ByWeekNo i = i.weekday == (start_of r).weekday && is_listed r ByWeekNo i
gives r part i = is_listed r part i

-- Expand: an instance has each value that the part lists, in place of the one that DTSTART gives.
abbrev pub expand : Recurrence → Part → Instances → Instances
expand r part set i = gives r part i && set (before r part i)

-- Note 1: BYDAY limits if BYMONTHDAY is there. Note 2: it limits if BYYEARDAY or BYMONTHDAY is there.
abbrev pub apply_cell : Cell → Recurrence → Part → Instances → Instances
apply_cell Nothing r part set i = set i
apply_cell Limit r part set i = limit r part set i
apply_cell Expand r part set i = expand r part set i
apply_cell Note1 r part set i = if is_absent r ByMonthDay then expand r part set i else limit r part set i
apply_cell Note2 r part set i = if is_absent r ByYearDay && is_absent r ByMonthDay then expand r part set i else limit r part set i

abbrev pub apply : Recurrence → Instances → Part → Instances
apply r set part i = if is_absent r part then set i else apply_cell (cell part r.parts.frequency) r part set i

-- all parts but BYSETPOS applied, in their order, to the own instance of the period with a number
abbrev pub expanded : Recurrence → ℕ → Instances
expanded r p =
    fold (apply r) (λ i. i.period == p && own_instance r.parts.frequency (start_of r) i)
    (ByMonth ∷ ByWeekNo ∷ ByYearDay ∷ ByMonthDay ∷ ByDay ∷ ByHour ∷ ByMinute ∷ BySecond ∷ [])

abbrev pub is_instance : Recurrence → ℕ → ℕ → Bool
is_instance r p n = expanded r p (instance_of r.parts n)

-- BYSETPOS lists n as the nth of a set: that many members are not later or, from the end, that many are not earlier
abbrev pub is_nth : WideOrdinals → (ℕ → Bool) → ℕ → Bool
is_nth positions set n = contains_wide positions.front (count (suc n) set) || contains_wide positions.back (count calendar_end set - count n set)

abbrev pub is_limited : Recurrence → ℕ → ℕ → Bool
is_limited r p n = is_instance r p n && (is_absent r BySetPos || is_nth r.parts.positions (is_instance r p) n)

-- the number of the period of a local, and the periods that FREQ and INTERVAL give
abbrev pub period_of : Recurrence → ℕ → ℕ
period_of r n = (instance_of r.parts n).period

abbrev pub is_period : Recurrence → ℕ → Bool
is_period r p = is_stepped (period_of r (number r.start)) r.parts.interval p

-- DTSTART is a member, whether or not it fits (our choice), and so is each later instance
abbrev pub is_member : Recurrence → ℕ → Bool
is_member r n = n == number r.start || (nat_lt (number r.start) n && (is_period r (period_of r n) && is_limited r (period_of r n) n))

-- ... and is kept if it is not past the end of the rules, UNTIL or COUNT
abbrev pub is_within_count : Recurrence → Option ℕ → ℕ → Bool
is_within_count r None n = true
is_within_count r (Some c) n = nat_lt (count n (is_member r)) c

abbrev pub is_kept_by_table : Recurrence → ℕ → Bool
is_kept_by_table r n =
    n == number r.start
    || (nat_lt n rules_end && is_member r n && is_bounded r n && is_within_count r r.parts.count n)

-- A rule that the table allows: it has no part whose cell is N/A, and a numbered weekday only under MONTHLY and under YEARLY without
-- BYWEEKNO. For dates its frequency is not finer than DAILY and its start is at midnight.
pub record IsAllowed (r : Recurrence) : Type 0 where
  pub parts : (part : Part) → cell part r.parts.frequency ≡ Nothing → is_absent r part ≡ true
  pub numbers : weekday_unit r r.parts.frequency ≡ Weekly → (w : ℕ) → lists_none (numbers_of r.parts.weekdays w) ≡ true
  pub dates : r.kind ≡ Date → (skips_hours r.parts.frequency ≡ true) × (r.start.second ≡ 0)
