-- The civil fields of a day. Days are counted from 0000-01-01.
use Rattle.std.specs.Prelude.{ℕ, zero, suc, ◌+◌, ◌-◌, ◌*◌, ◌/◌, ◌%◌, true, false, nat_le, pos, ℤ, ◌+ℤ◌, ◌-ℤ◌, unsigned_abs, ⊤}
use Rattle.jiff_core.specs.Calendar.{days_of_months, IsBetween}

-- the days before 1 January of year y
abbrev pub days_before_year : ℕ → ℕ
days_before_year y = 365 * y + (y + 3) / 4 - (y + 99) / 100 + (y + 399) / 400

-- the greatest year from y down that has begun by day e
abbrev pub year_from : ℕ → ℕ → ℕ
year_from e zero = 0
year_from e (suc y) = elim (nat_le (days_before_year (suc y)) e) [ true ↦ suc y | false ↦ year_from e y ]

-- the year of day e: the greatest that has begun by then
unfoldable pub year_of : ℕ → ℕ
year_of e = year_from e (e / 365)

-- the day of the year, from 1
unfoldable pub year_day_of : ℕ → ℕ
year_day_of e = e - days_before_year (year_of e) + 1

-- the greatest month from m down that has begun by the n-th day of year y
abbrev pub month_from : ℕ → ℕ → ℕ → ℕ
month_from y n zero = 0
month_from y n (suc m) = elim (nat_le (days_of_months (pos y) m + 1) n) [ true ↦ suc m | false ↦ month_from y n m ]

unfoldable pub month_of : ℕ → ℕ
month_of e = month_from (year_of e) (year_day_of e) 12

-- the day of the month, from 1
unfoldable pub month_day_of : ℕ → ℕ
month_day_of e = year_day_of e - days_of_months (pos (year_of e)) (month_of e - 1)

-- the weekday, from 0 for Monday: 0000-01-01 was a Saturday
abbrev pub weekday_of : ℕ → ℕ
weekday_of e = (e + 5) % 7

-- 1970-01-01, from which day numbers are counted
abbrev pub epoch_day : ℕ
epoch_day = days_before_year 1_970

-- the day number of a day, and the day with a number of the year 0000 or later
abbrev pub day_numbered : ℕ → ℤ
day_numbered e = pos e -ℤ pos epoch_day

abbrev pub day_index : ℤ → ℕ
day_index d = unsigned_abs (d +ℤ pos epoch_day)

-- the day number of 1 January of a year, and of the day before it
abbrev pub year_begin : ℕ → ℤ
year_begin year = day_numbered (days_before_year year)

abbrev pub before_year : ℕ → ℤ
before_year year = year_begin year -ℤ pos 1

-- day numbers of the years 0000 to 9999
abbrev pub IsDayNumber : ℤ → Type 0
IsDayNumber d = IsBetween (year_begin 0) (before_year 10_000) d

-- day numbers of the years 0001 to 9899, which stamps may have
abbrev pub IsStampDay : ℤ → Type 0
IsStampDay day = IsBetween (year_begin 1) (before_year 9_900) day

-- what a proof unfolds to compute the fields of a given day
unfoldable pub days_on_literals : ⊤
unfolding year_of year_day_of month_of month_day_of days_of_months
days_on_literals = tt
