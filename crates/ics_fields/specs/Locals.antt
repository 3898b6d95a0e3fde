-- A date and a time of day without a zone (RFC 5545, section 3.3.5), and the two ways to count it in seconds.
use Rattle.std.specs.Prelude.{ℕ, ◌+◌, ◌*◌, ◌%◌, ℤ, pos, ◌+ℤ◌, ◌*ℤ◌}
use Rattle.std.specs.Int.{int_div_euclid}
use Rattle.std.proofs.Math.Nat.{mod-lt}
use Rattle.std.proofs.Math.Dec.{lit<}
use Rattle.ics_fields.specs.Days.{days_before_year, day_index, year_begin}
use Rattle.ics_fields.specs.declared.local.Local.{Local}

-- the local at second n, modulo 86,400, of a day
abbrev pub local_at : ℤ → ℕ → Local
local_at day n = record { day = day; second = n % 86_400; second_in = mod-lt n (lit< tt) }

-- the seconds from 1970-01-01T00:00:00 to a second of a day, each day having 86,400
abbrev pub seconds_at : ℤ → ℕ → ℤ
seconds_at day second = day *ℤ pos 86_400 +ℤ pos second

-- the same to the midnight that begins a day
abbrev pub midnight : ℤ → ℤ
midnight day = seconds_at day 0

-- the same to a local
abbrev pub local_seconds : Local → ℤ
local_seconds local = seconds_at local.day local.second

-- the day of a local that is counted in these seconds, from 1970-01-01
abbrev pub day_of_local : ℤ → ℤ
day_of_local seconds = int_div_euclid seconds (pos 86_400)

-- the seconds of a number of days
abbrev pub whole_days : ℕ → ℤ
whole_days days = pos (days * 86_400)

-- the seconds from 1970-01-01T00:00:00 to the beginning of a year
abbrev pub year_seconds : ℕ → ℤ
year_seconds year = midnight (year_begin year)

-- the seconds from 0000-01-01T00:00:00 to a local of the year 0000 or later
abbrev pub number : Local → ℕ
number local = day_index local.day * 86_400 + local.second

-- the seconds from 0000-01-01T00:00:00 to the beginning of a year
abbrev pub year_number : ℕ → ℕ
year_number year = days_before_year year * 86_400

-- the same to the first local after the calendar, whose years are 0000 to 9999
abbrev pub calendar_end : ℕ
calendar_end = year_number 10_000
