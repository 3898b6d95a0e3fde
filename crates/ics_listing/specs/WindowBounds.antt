-- The bounds of windows, and of the occurrences that meet them. Instants are counted in seconds from 1970-01-01T00:00:00.
use Rattle.std.specs.Prelude.{ℤ, pos, ◌+ℤ◌, ◌-ℤ◌}
use Rattle.ics_event.specs.Event.{longest}
use Rattle.ics_fields.specs.Locals.{whole_days, year_seconds}

-- 0000-12-31T00:00, before which no window begins
abbrev pub window_first : ℤ
window_first = year_seconds 1 -ℤ whole_days 1

-- 9800-01-03T00:00, after which none ends
abbrev pub window_last : ℤ
window_last = year_seconds 9_800 +ℤ whole_days 2

-- 0000-12-30T00:00, before which no occurrence begins
abbrev pub occurrence_first : ℤ
occurrence_first = year_seconds 1 -ℤ whole_days 2

-- 9950-01-01T00:00, before which each that meets a window ends
abbrev pub occurrence_end : ℤ
occurrence_end = year_seconds 9_950

-- how many seconds an event lasts at most between two instants: those of the longest event, and of four days, since clocks differ
abbrev pub lasts_most : ℤ
lasts_most = pos longest +ℤ whole_days 4
