-- Which locals a rule keeps (RFC 5545, 3.3.10).
use Rattle.std.specs.Prelude.{◌≡◌, ℕ, ◌/◌, ◌^◌, ◌<◌, Bool, true, ◌&&◌, ◌||◌, ◌==◌, nat_le, nat_lt, Option, Some, None, ℤ}
use Rattle.ics_fields.specs.declared.until.Until.{Until}
use Rattle.ics_fields.specs.declared.until.Until.TheVariants as until
use Rattle.ics_fields.specs.Days.{day_index}
use Rattle.ics_fields.specs.Sets.{contains}
use Rattle.ics_period.specs.declared.kind.Kind.{Kind}
use Rattle.ics_period.specs.declared.kind.Kind.TheVariants.{Date, DateTime}
use Rattle.ics_rule.specs.declared.day.DayTimes.{DayTimes}
use Rattle.ics_rule.specs.declared.hour.HourTimes.{HourTimes}
use Rattle.ics_period.specs.Recurrence.{Recurrence}
use Rattle.ics_period.specs.PeriodNumbers.{day_of, hour_of, minute_of, second_of, rules_end}
use Rattle.ics_fields.specs.Locals.{number, local_seconds}
use Rattle.ics_period.specs.EffectiveRules.{effective}
use Rattle.ics_period.specs.Ranks.{count, is_chosen}

-- the start is in the rule, whether or not it fits (our choice), and so is each later candidate that BYSETPOS allows
unfoldable pub is_in_rule : Recurrence → ℕ → Bool
is_in_rule r n =
    n == number r.start
    || (nat_lt (number r.start) n && is_chosen (effective r) (number r.start) n)

-- not after UNTIL. A date is compared with the date of n, and a local with n, or with its date if the event has dates (our choice). UNTIL in
-- UTC is compared with instants if the event has date-times, and then bounds no local
abbrev pub is_by_until : Kind → Option Until → ℕ → Bool
is_by_until kind None n = true
is_by_until kind (Some (until.Date d)) n = nat_le (day_of n) (day_index d)
is_by_until Date (Some (until.Local l)) n = nat_le (day_of n) (day_index l.day)
is_by_until Date (Some (until.Utc l)) n = nat_le (day_of n) (day_index l.day)
is_by_until DateTime (Some (until.Local l)) n = nat_le n (number l)
is_by_until DateTime (Some (until.Utc l)) n = true

-- fewer than COUNT members are earlier
abbrev pub is_counted : Recurrence → Option ℕ → ℕ → Bool
is_counted r None n = true
is_counted r (Some c) n = nat_lt (count n (is_in_rule r)) c

-- the start is kept, and so is each member that is not past the end of the rules, UNTIL or COUNT
unfoldable pub is_kept : Recurrence → ℕ → Bool
is_kept r n =
    n == number r.start
    || (nat_lt n rules_end && is_in_rule r n && is_by_until r.kind r.parts.until n && is_counted r r.parts.count n)

-- UNTIL in UTC as seconds, if the event has date-times: it bounds instants
abbrev pub until_moment_of : Kind → Option Until → Option ℤ
until_moment_of DateTime (Some (until.Utc l)) = Some (local_seconds l)
until_moment_of DateTime (Some (until.Local l)) = None
until_moment_of DateTime (Some (until.Date d)) = None
until_moment_of DateTime None = None
until_moment_of Date u = None

unfoldable pub until_moment : Recurrence → Option ℤ
until_moment r = until_moment_of r.kind r.parts.until

-- of the locals of an hour, a rule keeps those with one of some minutes and one of some seconds
abbrev pub KeepsTimes : Recurrence → ℕ → HourTimes → Type 0
KeepsTimes r hour times =
    (n : ℕ) → n / 3_600 ≡ hour → is_kept r n ≡ (contains times.minutes (minute_of n) && contains times.seconds (second_of n))

-- of the locals of a day, a rule keeps those with one of some hours, one of some minutes and one of some seconds
pub record KeepsDay (r : Recurrence) (day : ℕ) (times : DayTimes) : Type 0 where
  pub kept : (n : ℕ) → day_of n ≡ day → is_kept r n
      ≡ (contains times.hours (hour_of n) && contains times.minutes (minute_of n) && contains times.seconds (second_of n))
  pub hours : times.hours < 2 ^ 24
  pub minutes : times.minutes < 2 ^ 60
  pub seconds : times.seconds < 2 ^ 60
