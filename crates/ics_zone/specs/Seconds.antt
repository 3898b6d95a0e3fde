-- Locals and instants as numbers of seconds, and the years for which a place has answers (RFC 5545, section 3.3.5).
use Rattle.std.specs.Prelude.{ℤ, pos, ◌+ℤ◌, ◌-ℤ◌}
use Rattle.jiff_core.specs.Calendar.{IsBetween}
use Rattle.ics_fields.specs.Days.{year_begin, before_year}
use Rattle.ics_fields.specs.Locals.{year_seconds, whole_days}

-- a day of the years 0000 to 9950
abbrev pub IsDay : ℤ → Type 0
IsDay day = IsBetween (year_begin 0) (before_year 9_951) day

-- an instant of the years 0000 to 9950, with two days more on either side
abbrev pub IsMoment : ℤ → Type 0
IsMoment moment = IsBetween (year_seconds 0 -ℤ whole_days 2) (year_seconds 9_951 +ℤ whole_days 2 -ℤ pos 1) moment

-- less than two days either way
abbrev pub IsNear : ℤ → Type 0
IsNear seconds = IsBetween (pos 1 -ℤ whole_days 2) (whole_days 2 -ℤ pos 1) seconds
