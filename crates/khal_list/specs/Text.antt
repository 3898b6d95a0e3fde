-- The text of a listing: each entry on a line, under its day. The form is the program's own.
use Rattle.std.specs.Prelude.{ℕ, ℤ, pos, ◌+◌, ◌/◌, ◌%◌, ◌==◌, ◌&&◌, ◌+ℤ◌, ◌-ℤ◌, Bool, true, false, List, [], ◌∷◌, ◌++◌, Option, Some, None, codes, map}
use Rattle.std.specs.Prelude.{replicate, slice_get, unwrap_or, unsigned_abs, if◌then◌else◌}
use Rattle.std.specs.Fmt.{signed_decimal}
use Rattle.std.specs.Int.{int_rem_euclid, int_max}
use Rattle.std.specs.Option.{option_eq}
use Rattle.std.specs.Ordering.{int_eq}
use Rattle.ics_values.specs.TextNames.{text_at}
use Rattle.ics_values.specs.declared.stamp.Stamp.{Stamp}
use Rattle.ics_values.specs.declared.stamp.Stamp.TheVariants.{Date, Floating, Utc, Zoned}
use Rattle.ics_fields.specs.Days.{year_of, month_of, month_day_of, weekday_of, day_index}
use Rattle.ics_event.specs.Event.{texts_in}
use Rattle.ics_listing.specs.FileClocks.{Clock}
use Rattle.ics_starts.specs.Clocks.{local_at}
use Rattle.ics_listing.specs.Entry.{Entry, rank_of}
use Rattle.ics_listing.specs.DayKeys.{on_day, OnDay, day_rank_of}
use Rattle.ics_days.specs.ShownDays.{date_at}
use Rattle.ics_listing.specs.Tokens.{day_spelling, spelling}
use Rattle.khal_words.specs.declared.field.EntryField.{EntryField}
use Rattle.khal_words.specs.declared.field.EntryField.TheVariants.{Cell, StartTime, EndTime, StartDate, EndDate, Uid, Cancelled, StartUnix, EndUnix}
use Rattle.khal_words.specs.declared.field.EntryField.TheVariants.{Token, Text}
use Rattle.khal_words.specs.declared.field.DayField.{DayField}
use Rattle.khal_words.specs.declared.field.DayField.TheVariants as day
use Rattle.khal_words.specs.declared.format.Piece.{Piece}
use Rattle.khal_words.specs.Formats.{filled}
use Rattle.khal_reading.specs.Shown.{shown}
use Rattle.ics_fields.specs.Locals.{day_of_local, whole_days}

-- the second of the day of a local
abbrev pub second_of : ℤ → ℕ
second_of local = unsigned_abs (int_rem_euclid local (whole_days 1))

-- a number below 100 in two digits, and one below 10,000 in four
abbrev pub two_digits : ℕ → List ℕ
two_digits n = (48 + n / 10) ∷ (48 + n % 10) ∷ []

abbrev pub four_digits : ℕ → List ℕ
four_digits n = two_digits (n / 100) ++ two_digits (n % 100)

-- `Monday` for 0 to `Sunday` for 6
abbrev pub weekday_name : ℕ → List ℕ
weekday_name n = unwrap_or (slice_get names n) []
  where
    names : List (List ℕ)
    names = codes "Monday" ∷ codes "Tuesday" ∷ codes "Wednesday" ∷ codes "Thursday" ∷ codes "Friday" ∷ codes "Saturday" ∷ codes "Sunday" ∷ []

-- `2024-01-05`
abbrev pub date_text : ℤ → List ℕ
date_text day = four_digits (year_of (day_index day)) ++ 45 ∷ (two_digits (month_of (day_index day)) ++ 45 ∷ two_digits (month_day_of (day_index day)))

-- `HH:MM`, the seconds left off
abbrev pub time_text : ℕ → List ℕ
time_text second = two_digits (second / 3_600) ++ 58 ∷ two_digits (second / 60 % 60)

abbrev pub blank : List ℕ
blank = replicate 5 32

-- the time of a start, or blanks if it is on another day than the entry's
abbrev pub start_text : ℤ → ℤ → List ℕ
start_text day start = if int_eq (day_of_local start) day then time_text (second_of start) else blank

-- a local is the first second of the day after
abbrev pub is_end_of : ℤ → ℤ → Bool
is_end_of day local = int_eq (day_of_local local) (day +ℤ pos 1) && second_of local == 0

-- the time of a finish, or blanks if it is on another day, but `24:00` for the first second of the next day
abbrev pub finish_text : ℤ → ℤ → List ℕ
finish_text day finish =
    if int_eq (day_of_local finish) day then time_text (second_of finish)
    else if is_end_of day finish then codes "24:00"
    else blank

abbrev pub times_text : ℤ → ℤ → ℤ → List ℕ
times_text day start finish = start_text day start ++ 45 ∷ finish_text day finish

abbrev pub is_date : Stamp → Bool
is_date (Date day) = true
is_date (Floating local) = false
is_date (Utc local) = false
is_date (Zoned local) = false

-- the times of an entry in eleven columns
abbrev pub cell_text : Clock → ℤ → Entry → List ℕ
cell_text clock day e =
    if is_date e.event.start.stamp then codes "all day    "
    else times_text day (local_at clock e.start) (local_at clock e.finish)

-- the display dates of a start and of a finish; for an event of dates, that of the finish is its last day
abbrev pub start_date : Clock → Entry → ℤ
start_date clock e = date_at clock e.start

abbrev pub end_date : Clock → Entry → ℤ
end_date clock e = if is_date e.event.start.stamp then date_at clock e.finish -ℤ pos 1 else date_at clock e.finish

-- the time of a local, or nothing for an event of dates
abbrev pub time_unless_date : Entry → ℤ → List ℕ
time_unless_date e local = if is_date e.event.start.stamp then [] else time_text (second_of local)

-- how a listing is written: by the clock of the display zone, from the window's start on, each entry once or under each of its days, and by these formats
pub record Style : Type 0 where
  pub clock : Clock
  pub from : ℤ
  pub every_day : Bool
  pub entries : List (Piece EntryField)
  pub days : List (Piece DayField)

-- the token with which a listing continues after an entry under this day
abbrev pub token_text : Style → ℤ → Entry → List ℕ
token_text style day e = if style.every_day then day_spelling (day_rank_of (on_day day e)) else spelling (rank_of e)

-- the value of a placeholder for an entry under this day
abbrev pub entry_field_text : Style → ℤ → Entry → EntryField → List ℕ
entry_field_text style day e Cell = cell_text style.clock day e
entry_field_text style day e StartTime = time_unless_date e (local_at style.clock e.start)
entry_field_text style day e EndTime = time_unless_date e (local_at style.clock e.finish)
entry_field_text style day e StartDate = date_text (start_date style.clock e)
entry_field_text style day e EndDate = date_text (end_date style.clock e)
entry_field_text style day e Uid = shown e.event.uid
entry_field_text style day e Cancelled = if e.event.cancelled then codes "CANCELLED " else []
entry_field_text style day e StartUnix = signed_decimal e.start
entry_field_text style day e EndUnix = signed_decimal e.finish
entry_field_text style day e Token = token_text style day e
entry_field_text style day e (Text name) = shown (text_at name (texts_in e.event))

-- the value of a placeholder for a day
abbrev pub day_field_text : ℤ → DayField → List ℕ
day_field_text number day.Name = weekday_name (weekday_of (day_index number))
day_field_text number day.Date = date_text number

-- an entry's line under this day, and LF
abbrev pub line_text : Style → ℤ → Entry → List ℕ
line_text style day e = filled (entry_field_text style day e) style.entries ++ 10 ∷ []

-- the heading of a day, and LF
abbrev pub heading_text : Style → ℤ → List ℕ
heading_text style day = filled (day_field_text day) style.days ++ 10 ∷ []

-- an entry is listed under the display date of the later of its start and the window's start
abbrev pub day_under : Style → Entry → ℤ
day_under style e = date_at style.clock (int_max e.start style.from)

-- the heading of a day, unless the entry before is listed under the same day
abbrev pub heading_after : Style → Option ℤ → ℤ → List ℕ
heading_after style before day = if option_eq int_eq before (Some day) then [] else heading_text style day

-- an entry under its day, after a heading if one is due
abbrev pub entry_text : Style → Option ℤ → ℤ → Entry → List ℕ
entry_text style before day e = heading_after style before day ++ line_text style day e

-- entries under days in order, each after the day of the one before
abbrev pub days_text_after : Style → Option ℤ → List OnDay → List ℕ
days_text_after style before [] = []
days_text_after style before (p ∷ ps) = entry_text style before p.day p.entry ++ days_text_after style (Some p.day) ps

-- the text of a list of entries under days
abbrev pub days_text : Style → List OnDay → List ℕ
days_text style list = days_text_after style None list

-- an entry under the day that it is listed under
abbrev pub under : Style → Entry → OnDay
under style e = on_day (day_under style e) e

-- the entries in order, each after the day of the one before
abbrev pub text_after : Style → Option ℤ → List Entry → List ℕ
text_after style before list = days_text_after style before (map (under style) list)

-- the text of a list of entries
abbrev pub text : Style → List Entry → List ℕ
text style list = text_after style None list
