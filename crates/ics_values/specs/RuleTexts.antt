-- The texts of recurrence rules (RFC 5545, section 3.3.10): parts `NAME=value` between `;`.
use Rattle.std.specs.Prelude.{ℕ, ◌-◌, Bool, true, false, ◌&&◌, ◌||◌, not, ◌==◌, nat_le, List, [], ◌∷◌, length, take, drop, map, codes, slice_index, Option}
use Rattle.std.specs.Prelude.{Some, None, is_some, if◌then◌else◌}
use Rattle.std.specs.List.{list_any, list_all, slice_split, before_first, after_first}
use Rattle.std.specs.Borrow.{Bor}
use Rattle.std.specs.Str.{bytes_eq}
use Rattle.jiff_core.specs.declared.civil.weekday.Weekday.{Weekday}
use Rattle.jiff_core.specs.declared.civil.weekday.Weekday.TheVariants.{Monday, Tuesday, Wednesday, Thursday, Friday, Saturday, Sunday}
use Rattle.ics_values.specs.Digits.{are_digits, number_of, upper}
use Rattle.ics_values.specs.Texts.{begins, is_minus, unsigned}
use Rattle.ics_values.specs.Stamps.{is_stamp_text, stamp_said, year_of}
use Rattle.ics_values.specs.declared.stamp.Stamp.{Stamp}
use Rattle.ics_values.specs.declared.stamp.Stamp.TheVariants as stamp
use Rattle.ics_fields.specs.declared.until.Until.{Until}
use Rattle.ics_fields.specs.declared.until.Until.TheVariants as until
use Rattle.ics_fields.specs.declared.ordinals.Side.{Side}
use Rattle.ics_fields.specs.declared.ordinals.Side.TheVariants.{Front, Back}
use Rattle.ics_fields.specs.declared.frequency.Frequency.{Frequency}
use Rattle.ics_fields.specs.declared.frequency.Frequency.TheVariants.{Secondly, Minutely, Hourly, Daily, Weekly, Monthly, Yearly}
use Rattle.ics_values.specs.declared.part_name.ListName.{ListName}
use Rattle.ics_values.specs.declared.part_name.ListName.TheVariants.{BySecond, ByMinute, ByHour, ByDay, ByMonthDay, ByYearDay, ByWeekNo, ByMonth, BySetPos}
use Rattle.ics_values.specs.declared.part_name.PartName.{PartName}
use Rattle.ics_values.specs.declared.part_name.PartName.TheVariants as part

-- the pieces between separators
abbrev pub pieces : ℕ → List ℕ → List (List ℕ)
pieces separator text = slice_split (λ b. b == separator) text

-- whether the text, its letters taken in upper case, is the word
abbrev pub is_word : List ℕ → List ℕ → Bool
is_word text word = bytes_eq (map upper text) word

-- the value beside the first word of a table that the text is
abbrev pub by_word : {A : Type 0} → List ℕ → List (Bor (List ℕ) × A) → Option A
by_word text [] = None
by_word text (row ∷ rows) = if is_word text row.0.now then Some row.1 else by_word text rows

-- The parts by their names. RSCALE, SKIP and any other names are refused.
abbrev pub name_of : List ℕ → Option PartName
name_of text =
    if is_word text (codes "FREQ") then Some part.Freq
    else if is_word text (codes "UNTIL") then Some part.Until
    else if is_word text (codes "COUNT") then Some part.Count
    else if is_word text (codes "INTERVAL") then Some part.Interval
    else if is_word text (codes "BYSECOND") then Some (part.List BySecond)
    else if is_word text (codes "BYMINUTE") then Some (part.List ByMinute)
    else if is_word text (codes "BYHOUR") then Some (part.List ByHour)
    else if is_word text (codes "BYDAY") then Some (part.List ByDay)
    else if is_word text (codes "BYMONTHDAY") then Some (part.List ByMonthDay)
    else if is_word text (codes "BYYEARDAY") then Some (part.List ByYearDay)
    else if is_word text (codes "BYWEEKNO") then Some (part.List ByWeekNo)
    else if is_word text (codes "BYMONTH") then Some (part.List ByMonth)
    else if is_word text (codes "BYSETPOS") then Some (part.List BySetPos)
    else if is_word text (codes "WKST") then Some part.Wkst
    else None

-- the number of a name among all of them
abbrev pub row : PartName → ℕ
row part.Freq = 0
row part.Until = 1
row part.Count = 2
row part.Interval = 3
row (part.List BySecond) = 4
row (part.List ByMinute) = 5
row (part.List ByHour) = 6
row (part.List ByDay) = 7
row (part.List ByMonthDay) = 8
row (part.List ByYearDay) = 9
row (part.List ByWeekNo) = 10
row (part.List ByMonth) = 11
row (part.List BySetPos) = 12
row part.Wkst = 13

abbrev pub frequency_of : List ℕ → Option Frequency
frequency_of text =
    if is_word text (codes "SECONDLY") then Some Secondly
    else if is_word text (codes "MINUTELY") then Some Minutely
    else if is_word text (codes "HOURLY") then Some Hourly
    else if is_word text (codes "DAILY") then Some Daily
    else if is_word text (codes "WEEKLY") then Some Weekly
    else if is_word text (codes "MONTHLY") then Some Monthly
    else if is_word text (codes "YEARLY") then Some Yearly
    else None

abbrev pub weekday_of : List ℕ → Option Weekday
weekday_of text =
    if is_word text (codes "MO") then Some Monday
    else if is_word text (codes "TU") then Some Tuesday
    else if is_word text (codes "WE") then Some Wednesday
    else if is_word text (codes "TH") then Some Thursday
    else if is_word text (codes "FR") then Some Friday
    else if is_word text (codes "SA") then Some Saturday
    else if is_word text (codes "SU") then Some Sunday
    else None

-- UNTIL is a DATE or a DATE-TIME of the years 0001 to 9999.
abbrev pub until_said : Stamp → Until
until_said (stamp.Date day) = until.Date day
until_said (stamp.Utc local) = until.Utc local
until_said (stamp.Floating local) = until.Local local
until_said (stamp.Zoned local) = until.Local local

abbrev pub until_of : List ℕ → Option Until
until_of text = if is_stamp_text text && nat_le 1 (year_of text) then Some (until_said (stamp_said false text)) else None

-- COUNT and INTERVAL: digits that spell 1 or more
abbrev pub is_rule_number : List ℕ → Bool
is_rule_number text = are_digits text && nat_le 1 (number_of text)

-- digits that spell a number from low to high
abbrev pub is_number : ℕ → ℕ → List ℕ → Bool
is_number low high text = are_digits text && nat_le low (number_of text) && nat_le (number_of text) high

-- the end from which a number with an optional sign counts
abbrev pub side_of : List ℕ → Side
side_of text = if begins is_minus text then Back else Front

-- a number from 1 to high with an optional sign
abbrev pub is_signed : ℕ → List ℕ → Bool
is_signed high text = is_number 1 high (unsigned text)

-- an item of BYDAY: its last two letters, and the text before them
abbrev pub day_text : List ℕ → List ℕ
day_text item = drop (length item - 2) item

abbrev pub number_before : List ℕ → List ℕ
number_before item = take (length item - 2) item

-- a weekday, with or without a number from 1 to 53 before it, which may have a sign
abbrev pub is_day_item : List ℕ → Bool
is_day_item item = is_some (weekday_of (day_text item)) && (length item == 2 || is_signed 53 (number_before item))

-- the items that each list may have
abbrev pub fits_list : ListName → List ℕ → Bool
fits_list BySecond item = is_number 0 60 item
fits_list ByMinute item = is_number 0 59 item
fits_list ByHour item = is_number 0 23 item
fits_list ByDay item = is_day_item item
fits_list ByMonthDay item = is_signed 31 item
fits_list ByYearDay item = is_signed 366 item
fits_list ByWeekNo item = is_signed 53 item
fits_list ByMonth item = is_number 1 12 item
fits_list BySetPos item = is_signed 366 item

-- the values that each part may have: a list has one item or more between commas
abbrev pub fits : PartName → List ℕ → Bool
fits part.Freq value = is_some (frequency_of value)
fits part.Until value = is_some (until_of value)
fits part.Count value = is_rule_number value
fits part.Interval value = is_rule_number value
fits (part.List list) value = list_all (fits_list list) (pieces 44 value)
fits part.Wkst value = is_some (weekday_of value)

-- A part: its name, if a part has that name, and its value, the text after its first `=`.
pub record Part : Type 0 where
  pub name : Option PartName
  pub value : List ℕ

abbrev pub is_equals : ℕ → Bool
is_equals b = b == 61

abbrev pub part_of : List ℕ → Part
part_of text = record { name = name_of (before_first is_equals text); value = after_first is_equals text }

-- the text without the `;` that may end it
abbrev pub without_last : List ℕ → List ℕ
without_last text = if slice_index text (length text - 1) == 59 then take (length text - 1) text else text

abbrev pub parts_of : List ℕ → List Part
parts_of text = map part_of (pieces 59 (without_last text))

-- the name is that of a part, and the value fits it
abbrev pub fits_name : Option PartName → List ℕ → Bool
fits_name None value = false
fits_name (Some name) value = fits name value

abbrev pub is_part : Part → Bool
is_part p = fits_name p.name p.value

abbrev pub is_name : PartName → Option PartName → Bool
is_name name None = false
is_name name (Some other) = row other == row name

abbrev pub same_name : Option PartName → Option PartName → Bool
same_name None other = false
same_name (Some name) other = is_name name other

-- one of the parts has the name
abbrev pub has_part : PartName → List Part → Bool
has_part name ps = list_any (λ p. is_name name p.name) ps

-- no two parts have one name
abbrev pub none_twice : List Part → Bool
none_twice [] = true
none_twice (p ∷ ps) = not (list_any (λ q. same_name p.name q.name) ps) && none_twice ps

-- Each part is valid and none occurs twice. FREQ is there, and not both UNTIL and COUNT.
abbrev pub are_parts : List Part → Bool
are_parts ps =
    list_all is_part ps && none_twice ps && has_part part.Freq ps
    && not (has_part part.Until ps && has_part part.Count ps)
