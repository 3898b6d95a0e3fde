-- When daylight saving time begins and ends in a year by a rule, where both are days away from the year's ends and from each other.
use Rattle.std.specs.Prelude.{◌≡◌, ◌⊎◌, ◌≤ℤ◌, ◌+ℤ◌, ◌-ℤ◌, ℤ, pos, Some}
use Rattle.std.specs.Int.{int_div_euclid}
use Rattle.jiff_core.specs.Calendar.{IsYear, days_in_year}
use Rattle.jiff_core.specs.Timestamp.{nanos_of_seconds}
use Rattle.jiff_tz.specs.PosixRule.{first_day}
use Rattle.jiff_tz.specs.PosixText.{DstText, TzText}
use Rattle.ics_fields.specs.Locals.{midnight, whole_days}
use Rattle.ics_zone.specs.ZoneFiles.{daylight_window, rule_moment}

-- the seconds from 1970-01-01T00:00:00 to the beginning of a year, and to that of the one after it
abbrev pub first_second : ℤ → ℤ
first_second year = midnight (first_day year)

abbrev pub end_second : ℤ → ℤ
end_second year = midnight (first_day year +ℤ pos (days_in_year year))

-- three days or more after the one, and before the other
abbrev pub IsClear : ℤ → ℤ → ℤ → Type 0
IsClear first end local = ((first +ℤ whole_days 3) ≤ℤ local) × ((local +ℤ whole_days 3) ≤ℤ end)

-- a local of the year, three days or more away from its ends
abbrev pub IsInside : ℤ → ℤ → Type 0
IsInside year local = IsClear (first_second year) (end_second year) local

-- three days or more apart
abbrev pub AreApart : ℤ → ℤ → Type 0
AreApart a b = ((a +ℤ whole_days 3) ≤ℤ b) ⊎ ((b +ℤ whole_days 3) ≤ℤ a)

-- these are the locals at two instants, in nanoseconds, by two offsets, and days away from the ends of the year and from each other
pub record AreShown (year on off before after begin end : ℤ) : Type 0 where
  pub begins : begin ≡ int_div_euclid on (pos 1_000_000_000) +ℤ before
  pub ends : end ≡ int_div_euclid off (pos 1_000_000_000) +ℤ after
  pub begin_in : IsInside year begin
  pub end_in : IsInside year end
  pub apart : AreApart begin end

-- in this year daylight saving time begins at the one local, by standard time, and ends at the other, by daylight saving time
pub record AreTurns (rule : TzText) (dst : DstText) (year begin end : ℤ) : Type 0 where
  pub own : rule.dst ≡ Some dst
  pub year_in : IsYear year
  pub starts : rule_moment year (pos 0) dst.start ≡ nanos_of_seconds begin
  pub ends : rule_moment year (pos 0) dst.finish ≡ nanos_of_seconds end
  pub window : daylight_window year rule.std_seconds dst ≡ (nanos_of_seconds (begin -ℤ rule.std_seconds), nanos_of_seconds (end -ℤ dst.seconds))
  pub begin_in : IsInside year begin
  pub end_in : IsInside year end
  pub apart : AreApart begin end
