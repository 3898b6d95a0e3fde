-- Dates of the Gregorian calendar and their day numbers (RFC 5545, section 3.3.4).
use Rattle.std.specs.Prelude.{◌≡◌, ◌↔◌, ℕ, ◌+◌, ◌-◌, Bool, true, ◌&&◌, nat_le, List, [], ◌∷◌, take, map, sum, ℤ, pos, Option, Some, None, if◌then◌else◌}
use Rattle.jiff_core.specs.Calendar.{days_in_month, days_from_civil, IsDate}
use Rattle.ics_fields.specs.Days.{days_before_year, day_numbered}

-- the calendar has this date
abbrev pub is_date : ℕ → ℕ → ℕ → Bool
is_date y m d = nat_le 1 m && nat_le m 12 && nat_le 1 d && nat_le d (days_in_month (pos y) m)

abbrev pub months : List ℕ
months = 1 ∷ 2 ∷ 3 ∷ 4 ∷ 5 ∷ 6 ∷ 7 ∷ 8 ∷ 9 ∷ 10 ∷ 11 ∷ 12 ∷ []

-- the days of the year before month m
abbrev pub days_before_month : ℕ → ℕ → ℕ
days_before_month y m = sum (map (days_in_month (pos y)) (take (m - 1) months))

-- the day number of a date: 0 for 1970-01-01, and negative before it
abbrev pub day_number : ℕ → ℕ → ℕ → ℤ
day_number y m d = day_numbered (days_before_year y + days_before_month y m + (d - 1))

-- the day number of a date, if the calendar has it
abbrev pub date_day : ℕ → ℕ → ℕ → Option ℤ
date_day y m d = if is_date y m d then Some (day_number y m d) else None

-- whether the date exists, and its day number, are as jiff has them
pub record IsJiffsDate (y m d : ℕ) : Type 0 where
  pub exists : (is_date y m d ≡ true) ↔ IsDate (pos y) (pos m) (pos d)
  pub number : is_date y m d ≡ true → day_number y m d ≡ days_from_civil (pos y) m d
