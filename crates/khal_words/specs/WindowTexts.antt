-- The texts that name the ends of a window: `YYYY-MM-DD`, `YYYY-MM-DDTHH:MM` and `Nd`. A local is counted in
-- seconds from 1970-01-01T00:00:00, each day having 86,400.
use Rattle.std.specs.Prelude.{ℕ, ℤ, pos, ◌+◌, ◌-◌, ◌*◌, ◌==◌, ◌&&◌, nat_le, Bool, List, [], ◌∷◌, length, take, drop, slice_index, Option, Some, None}
use Rattle.std.specs.Prelude.{option_map, option_and_then, if◌then◌else◌}
use Rattle.std.specs.Char.{is_ascii_digit}
use Rattle.std.specs.List.{list_all}
use Rattle.std.specs.Option.{option_or}
use Rattle.std.specs.Str.Parse.{digits_value}
use Rattle.jiff_core.specs.Calendar.{days_in_month, days_from_civil}
use Rattle.ics_fields.specs.Clocks.{second_said, two_digits}
use Rattle.ics_fields.specs.Locals.{seconds_at}

-- what a window text names: a day, a local, or a number of days
pub data Named : Type 0 where
  Day : ℤ → Named
  Local : ℤ → Named
  Days : ℕ → Named

-- the number that four digits spell
abbrev pub quad : ℕ → ℕ → ℕ → ℕ → Option ℕ
quad a b c d =
    option_and_then (λ front. option_map (λ back. front * 100 + back) (two_digits c d)) (two_digits a b)

-- the calendar has this date
abbrev pub has_date : ℕ → ℕ → ℕ → Bool
has_date year month day =
    (nat_le 1 month && nat_le month 12)
    && (nat_le 1 day && nat_le day (days_in_month (pos year) month))

-- the number of this date, counted from 1970-01-01
abbrev pub day_number : ℕ → ℕ → ℕ → Option ℤ
day_number year month day =
    if has_date year month day then Some (days_from_civil (pos year) month day) else None

abbrev pub date_named : Option ℕ → Option ℕ → Option ℕ → Option ℤ
date_named year month day =
    option_and_then (λ y. option_and_then (λ m. option_and_then (λ d. day_number y m d) day) month) year

-- the day of `YYYY-MM-DD`
abbrev pub day_said : List ℕ → Option ℤ
day_said (a ∷ b ∷ c ∷ d ∷ x ∷ e ∷ f ∷ y ∷ g ∷ h ∷ []) =
    if (x == 45) && (y == 45) then date_named (quad a b c d) (two_digits e f) (two_digits g h) else None
day_said text = None

-- the second of the day of `THH:MM`
abbrev pub time_said : List ℕ → Option ℕ
time_said (t ∷ clock) = if t == 84 then second_said clock else None
time_said [] = None

-- the local of `YYYY-MM-DDTHH:MM`
abbrev pub local_said : List ℕ → Option ℤ
local_said text =
    option_and_then (λ day. option_map (λ second. seconds_at day second) (time_said (drop 10 text)))
    (day_said (take 10 text))

-- the text without the `d` at its end
abbrev pub before_d : List ℕ → Option (List ℕ)
before_d text =
    if slice_index text (length text - 1) == 100 then Some (take (length text - 1) text) else None

-- the most days of a window that is given by their number
abbrev pub most_days : ℕ
most_days = 3_700_000

-- a number of days from 1 to that
abbrev pub is_number_of_days : ℕ → Bool
is_number_of_days n = nat_le 1 n && nat_le n most_days

abbrev pub number_said : List ℕ → Option ℕ
number_said digits =
    if list_all is_ascii_digit digits && is_number_of_days (digits_value 10 digits)
    then Some (digits_value 10 digits)
    else None

-- the number of `Nd`
abbrev pub days_said : List ℕ → Option ℕ
days_said text = option_and_then number_said (before_d text)

-- what a text names, if it has one of the forms
abbrev pub named : List ℕ → Option Named
named text =
    option_or (option_map Day (day_said text))
    (option_or (option_map Local (local_said text)) (option_map Days (days_said text)))
