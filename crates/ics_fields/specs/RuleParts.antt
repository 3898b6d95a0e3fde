-- The parts of a recurrence rule (RFC 5545, 3.3.10).
use Rattle.std.specs.Prelude.{ℕ, ◌≤◌, Option, None, MatchOption}
use Rattle.jiff_core.specs.declared.civil.weekday.Weekday.{Weekday}
use Rattle.jiff_core.specs.declared.civil.weekday.Weekday.TheVariants.{Monday}
use Rattle.ics_fields.specs.declared.frequency.Frequency.{Frequency}
use Rattle.ics_fields.specs.declared.until.Until.{Until}
use Rattle.ics_fields.specs.declared.until.Until.TheVariants as until
use Rattle.ics_fields.specs.declared.ordinals.Ordinals.{Ordinals}
use Rattle.ics_fields.specs.declared.ordinals.WideOrdinals.{WideOrdinals}
use Rattle.ics_fields.specs.declared.ordinals.Weekdays.{Weekdays}
use Rattle.ics_fields.specs.Days.{IsDayNumber}
use Rattle.ics_fields.specs.Sets.{contains, contains_wide, IsWithin}
use Rattle.ics_fields.specs.Ordinals.{no_ordinals, no_wide_ordinals, no_weekdays, numbers_of}

-- an empty list is an absent part
pub record RuleParts : Type 0 where
  pub frequency : Frequency
  pub interval : ℕ
  pub count : Option ℕ
  pub until : Option Until
  pub seconds : ℕ
  pub minutes : ℕ
  pub hours : ℕ
  pub weekdays : Weekdays
  pub month_days : Ordinals
  pub year_days : WideOrdinals
  pub weeks : Ordinals
  pub months : ℕ
  pub positions : WideOrdinals
  pub week_start : Weekday

-- the rule with FREQ alone
abbrev pub every : Frequency → RuleParts
every f = record {
  frequency = f;
  interval = 1;
  count = None;
  until = None;
  seconds = 0;
  minutes = 0;
  hours = 0;
  weekdays = no_weekdays;
  month_days = no_ordinals;
  year_days = no_wide_ordinals;
  weeks = no_ordinals;
  months = 0;
  positions = no_wide_ordinals;
  week_start = Monday;
}

-- the day of UNTIL is one of the calendar, whose years are 0000 to 9999
abbrev pub IsUntil : Until → Type 0
IsUntil (until.Date day) = IsDayNumber day
IsUntil (until.Local local) = IsDayNumber local.day
IsUntil (until.Utc local) = IsDayNumber local.day

-- numbers from 1 to high, from either end
pub record ArePlaces (p : Ordinals) (high : ℕ) : Type 0 where
  pub front : IsWithin 1 high (contains p.front)
  pub back : IsWithin 1 high (contains p.back)

pub record AreWidePlaces (p : WideOrdinals) (high : ℕ) : Type 0 where
  pub front : IsWithin 1 high (contains_wide p.front)
  pub back : IsWithin 1 high (contains_wide p.back)

-- each number is one that the grammar of its part allows
pub record IsRuleParts (p : RuleParts) : Type 0 where
  pub interval : 1 ≤ p.interval
  pub count : MatchOption p.count (Unit {0}) (λ n. 1 ≤ n)
  pub until : MatchOption p.until (Unit {0}) IsUntil
  pub seconds : IsWithin 0 59 (contains p.seconds)
  pub minutes : IsWithin 0 59 (contains p.minutes)
  pub hours : IsWithin 0 23 (contains p.hours)
  pub weekdays : IsWithin 0 6 (contains p.weekdays.plain)
  pub numbered : (w : ℕ) → ArePlaces (numbers_of p.weekdays w) 53
  pub month_days : ArePlaces p.month_days 31
  pub year_days : AreWidePlaces p.year_days 366
  pub weeks : ArePlaces p.weeks 53
  pub months : IsWithin 1 12 (contains p.months)
  pub positions : AreWidePlaces p.positions 366
