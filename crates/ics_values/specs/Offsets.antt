-- The texts of offsets from UTC, and what they mean (RFC 5545, section 3.3.14).
use Rattle.std.specs.Prelude.{ℕ, ◌+◌, ◌*◌, Bool, ◌&&◌, ◌||◌, ◌==◌, nat_le, List, length, drop, Result, Ok, Err, ℤ, if◌then◌else◌}
use Rattle.ics_values.specs.Digits.{are_digits, number_at}
use Rattle.ics_values.specs.Texts.{begins, is_sign, is_minus, with_sign}
use Rattle.ics_values.specs.declared.offset.BadOffset.{BadOffset}

-- `+HHMM` or `+HHMMSS`, with either sign
abbrev pub is_offset_form : List ℕ → Bool
is_offset_form text = (length text == 5 || length text == 7) && begins is_sign text && are_digits (drop 1 text)

abbrev pub offset_hours : List ℕ → ℕ
offset_hours text = number_at text 1 3

abbrev pub offset_minutes : List ℕ → ℕ
offset_minutes text = number_at text 3 5

-- the seconds, 0 if they are not written
abbrev pub offset_seconds : List ℕ → ℕ
offset_seconds text = number_at text 5 7

-- the text is of the form, with hours to 23, minutes to 59 and seconds to 59
abbrev pub is_offset_text : List ℕ → Bool
is_offset_text text =
    is_offset_form text && nat_le (offset_hours text) 23 && nat_le (offset_minutes text) 59 && nat_le (offset_seconds text) 59

-- the size of the offset in seconds
abbrev pub offset_size : List ℕ → ℕ
offset_size text = 3600 * offset_hours text + 60 * offset_minutes text + offset_seconds text

-- what such a text says, in seconds
abbrev pub offset_said : List ℕ → ℤ
offset_said text = with_sign (begins is_minus text) (offset_size text)

-- the offset of a text, or its fault
abbrev pub offset_of : List ℕ → Result ℤ BadOffset
offset_of text = if is_offset_text text then Ok (offset_said text) else Err (record {})
