-- What a rule keeps in two hours that follow each other.
use Rattle.std.specs.Prelude.{◌≡◌, ℕ, ◌+◌, ◌<◌, ◌≤◌, ◌/◌, Bool, ◌&&◌, ◌==◌, if◌then◌else◌, Some, IfSome, Option, ℤ, ◌<ℤ◌}
use Rattle.ics_fields.specs.Sets.{contains}
use Rattle.ics_period.specs.Recurrence.{Recurrence}
use Rattle.ics_period.specs.PeriodNumbers.{minute_of, second_of, rules_end}
use Rattle.ics_rule.specs.Kept.{is_kept}
use Rattle.ics_zone.specs.declared.hours.Hours.{Hours}
use Rattle.ics_zone.specs.declared.onsets.Onsets.{Onsets}
use Rattle.ics_zone.specs.declared.times.Times.{Times}
use Rattle.ics_zone.specs.Observances.{instant_by}

-- the minute and the second of a local are among those of an hour
abbrev pub keeps_time : Times → ℕ → Bool
keeps_time times n = contains times.minutes (minute_of n) && contains times.seconds (second_of n)

abbrev pub keeps : Hours → ℕ → Bool
keeps hours n = if n / 3_600 == hours.hour then keeps_time hours.here n else keeps_time hours.next n

-- they say what the rule keeps from a local on for an hour
abbrev pub AreHoursOf : Recurrence → ℕ → Hours → Type 0
AreHoursOf r from hours = (n : ℕ) → from ≤ n → n < from + 3_600 → is_kept r n ≡ keeps hours n

-- they say whether the rule has an onset at t
pub record IsToldAt (onsets : Onsets) (hours : Hours) (t : ℤ) : Type 0 where
  pub rule : Recurrence
  pub is_rule : onsets.rule ≡ Some rule
  pub local : ℕ
  pub early : local < rules_end
  pub is : t ≡ instant_by onsets.offset_from local
  pub same : is_kept rule local ≡ keeps hours local

-- they say it of each instant after one and before another
abbrev pub IsTold : Onsets → ℤ → ℤ → Hours → Type 0
IsTold onsets after limit hours = (t : ℤ) → after <ℤ t → t <ℤ limit → IsToldAt onsets hours t

abbrev pub IsToldBy : Onsets → ℤ → ℤ → Option Hours → Type 0
IsToldBy onsets after limit hours = IfSome hours (IsTold onsets after limit)
