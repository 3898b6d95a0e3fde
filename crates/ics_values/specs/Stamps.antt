-- The texts of dates and times, and what they mean (RFC 5545, sections 3.3.4 and 3.3.5).
use Rattle.std.specs.List.{list_all}
use Rattle.std.specs.Prelude.{◌≡◌, ◌≤◌, ℕ, ◌+◌, ◌*◌, Bool, true, ◌&&◌, ◌||◌, not, ◌==◌, nat_le, List, length, take, drop, min, Result, Ok, Err, ℤ, pos}
use Rattle.std.specs.Prelude.{if◌then◌else◌}
use Rattle.jiff_core.specs.Calendar.{IsDate, days_from_civil}
use Rattle.ics_values.specs.Digits.{is_digit, are_digits, number_at, letter_at}
use Rattle.ics_values.specs.Dates.{is_date, day_number}
use Rattle.ics_fields.specs.Locals.{local_at}
use Rattle.ics_fields.specs.declared.local.Local.{Local}
use Rattle.ics_values.specs.declared.stamp.Stamp.{Stamp}
use Rattle.ics_values.specs.declared.stamp.Stamp.TheVariants.{Date, Floating, Utc, Zoned}
use Rattle.ics_values.specs.declared.stamp.StampFault.{StampFault}
use Rattle.ics_values.specs.declared.stamp.StampFault.TheVariants.{BadStamp, YearRange}

-- `YYYYMMDD`
abbrev pub is_date_form : List ℕ → Bool
is_date_form text = (length text == 8) && are_digits text

-- `YYYYMMDDTHHMMSS`
abbrev pub is_local_form : List ℕ → Bool
is_local_form text = (length text == 15) && are_digits (take 8 text) && (letter_at text 8 == 84) && are_digits (drop 9 text)

-- the same with `Z`
abbrev pub is_utc_form : List ℕ → Bool
is_utc_form text = (length text == 16) && is_local_form (take 15 text) && (letter_at text 15 == 90)

abbrev pub is_date_time_form : List ℕ → Bool
is_date_time_form text = is_utc_form text || is_local_form text

abbrev pub year_of : List ℕ → ℕ
year_of text = number_at text 0 4

-- the date of the text's first eight digits
abbrev pub date_exists : List ℕ → Bool
date_exists text = is_date (year_of text) (number_at text 4 6) (number_at text 6 8)

abbrev pub day_of : List ℕ → ℤ
day_of text = day_number (year_of text) (number_at text 4 6) (number_at text 6 8)

-- the time has hours to 23, minutes to 59 and seconds to 60
abbrev pub time_exists : List ℕ → Bool
time_exists text = nat_le (number_at text 9 11) 23 && nat_le (number_at text 11 13) 59 && nat_le (number_at text 13 15) 60

-- the second of the day; second 60 is read as 59
abbrev pub second_of : List ℕ → ℕ
second_of text = 3600 * number_at text 9 11 + 60 * number_at text 11 13 + min (number_at text 13 15) 59

abbrev pub local_of : List ℕ → Local
local_of text = local_at (day_of text) (second_of text)

-- The text has one of the forms, and its date and time exist.
abbrev pub is_stamp_text : List ℕ → Bool
is_stamp_text text =
    (is_date_form text && date_exists text)
    || (is_date_time_form text && date_exists text && time_exists text)

-- What such a text says. `zoned` says whether the property has a TZID.
abbrev pub stamp_said : Bool → List ℕ → Stamp
stamp_said zoned text =
    if is_date_form text then Date (day_of text)
    else if is_utc_form text then Utc (local_of text)
    else if zoned then Zoned (local_of text)
    else Floating (local_of text)

abbrev pub is_stamp_year : ℕ → Bool
is_stamp_year year = nat_le 1 year && nat_le year 9899

-- The stamp of a text, or its fault.
abbrev pub stamp_of : Bool → List ℕ → Result Stamp StampFault
stamp_of zoned text =
    if not (is_stamp_text text) then Err BadStamp
    else if not (is_stamp_year (year_of text)) then Err YearRange
    else Ok (stamp_said zoned text)

-- the day of a stamp
abbrev pub stamp_day : Stamp → ℤ
stamp_day (Date day) = day
stamp_day (Floating local) = local.day
stamp_day (Utc local) = local.day
stamp_day (Zoned local) = local.day

-- jiff's calendar has the date that the text's first eight digits name, and this is its day number
pub record IsDayOf (text : List ℕ) (day : ℤ) : Type 0 where
  pub date : IsDate (pos (year_of text)) (pos (number_at text 4 6)) (pos (number_at text 6 8))
  pub number : day ≡ days_from_civil (pos (year_of text)) (number_at text 4 6) (number_at text 6 8)

-- the first eight bytes are digits, and so are those of the time
pub record HasDate (text : List ℕ) : Type 0 where
  pub long : 8 ≤ length text
  pub digits : list_all is_digit (take 8 text) ≡ true

pub record HasTime (text : List ℕ) : Type 0 where
  pub long : 15 ≤ length text
  pub digits : list_all is_digit (take 6 (drop 9 text)) ≡ true
