-- The texts of durations, and what they mean (RFC 5545, section 3.3.6).
use Rattle.std.specs.Prelude.{◌≤◌, ℕ, ◌+◌, ◌-◌, ◌*◌, Bool, ◌&&◌, not, ◌==◌, nat_le, List, [], ◌∷◌, ◌++◌, map, codes, Result, Ok, Err, if◌then◌else◌}
use Rattle.std.specs.List.{list_any}
use Rattle.std.specs.Str.{bytes_eq}
use Rattle.ics_values.specs.Digits.{is_digit, upper, greatest_number}
use Rattle.ics_values.specs.Texts.{begins, is_minus, unsigned}
use Rattle.ics_values.specs.declared.duration.Duration.{Duration}
use Rattle.ics_values.specs.declared.duration.DurationFault.{DurationFault}
use Rattle.ics_values.specs.declared.duration.DurationFault.TheVariants.{BadDuration, NumberTooLarge}

-- the text with one `0` for each number, and with its letters in upper case
abbrev pub shape : List ℕ → List ℕ
shape [] = []
shape (b ∷ bs) =
    let later = shape bs in
    if not (is_digit b) then upper b ∷ later
    else if begins is_digit bs then later
    else 48 ∷ later

-- each of these shapes after a prefix
abbrev pub behind : List ℕ → List (List ℕ) → List (List ℕ)
behind front shapes = map (λ s. front ++ s) shapes

-- seconds; minutes, and then seconds or nothing; hours, and then minutes or nothing
abbrev pub second_shapes : List (List ℕ)
second_shapes = behind (codes "0S") ([] ∷ [])

abbrev pub minute_shapes : List (List ℕ)
minute_shapes = behind (codes "0M") ([] ∷ second_shapes)

abbrev pub hour_shapes : List (List ℕ)
hour_shapes = behind (codes "0H") ([] ∷ minute_shapes)

-- a time
abbrev pub time_shapes : List (List ℕ)
time_shapes = behind (codes "T") (hour_shapes ++ minute_shapes ++ second_shapes)

-- days, and then a time or nothing
abbrev pub day_shapes : List (List ℕ)
day_shapes = behind (codes "0D") ([] ∷ time_shapes)

abbrev pub week_shapes : List (List ℕ)
week_shapes = behind (codes "0W") ([] ∷ [])

-- the shapes of durations without their sign
abbrev pub duration_shapes : List (List ℕ)
duration_shapes = behind (codes "P") (week_shapes ++ day_shapes ++ time_shapes)

-- the text has one of the shapes
abbrev pub has_shape : List (List ℕ) → List ℕ → Bool
has_shape shapes text = list_any (bytes_eq (shape text)) shapes

abbrev pub is_duration_text : List ℕ → Bool
is_duration_text text = has_shape duration_shapes (unsigned text)

-- the number before a unit's letter, given the number that ends here; 0 if the letter is not there
abbrev pub amount_from : ℕ → List ℕ → ℕ → ℕ
amount_from unit [] n = 0
amount_from unit (b ∷ bs) n =
    if upper b == unit then n
    else amount_from unit bs (if is_digit b then 10 * n + (b - 48) else 0)

abbrev pub amount : ℕ → List ℕ → ℕ
amount unit text = amount_from unit text 0

abbrev pub weeks : List ℕ → ℕ
weeks = amount 87

abbrev pub days : List ℕ → ℕ
days = amount 68

abbrev pub hours : List ℕ → ℕ
hours = amount 72

abbrev pub minutes : List ℕ → ℕ
minutes = amount 77

abbrev pub seconds : List ℕ → ℕ
seconds = amount 83

-- no number of the text is too large
abbrev pub amounts_fit : List ℕ → Bool
amounts_fit text = nat_le (weeks text) greatest_number && nat_le (days text) greatest_number && nat_le (hours text) greatest_number
    && nat_le (minutes text) greatest_number && nat_le (seconds text) greatest_number

-- what such a text says
abbrev pub duration_said : List ℕ → Duration
duration_said text = record {
  negative = begins is_minus text;
  days = 7 * weeks text + days text;
  seconds = 3600 * hours text + 60 * minutes text + seconds text;
}

-- the duration of a text, or its fault
abbrev pub duration_of : List ℕ → Result Duration DurationFault
duration_of text =
    if not (is_duration_text text) then Err BadDuration
    else if not (amounts_fit text) then Err NumberTooLarge
    else Ok (duration_said text)

-- the greatest days and seconds that a duration's text may have
pub record IsDurationRange (d : Duration) : Type 0 where
  pub days : d.days ≤ 8 * greatest_number
  pub seconds : d.seconds ≤ 3661 * greatest_number
