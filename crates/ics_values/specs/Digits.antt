-- Digits, the numbers that they spell, and letters in upper case.
use Rattle.std.specs.Prelude.{◌≡◌, ◌<◌, ◌≤◌, Option, Some, None, ℕ, ◌+◌, ◌-◌, ◌*◌, ◌^◌, Bool, ◌&&◌, not, ◌==◌, List, length, slice_range, slice_index, fold}
use Rattle.std.specs.List.{list_all, position_or_len}
use Rattle.std.specs.Char.{is_ascii_digit, to_ascii_uppercase}

abbrev pub is_digit : ℕ → Bool
is_digit b = is_ascii_digit b

-- the byte in upper case if it is a letter, and else the byte
abbrev pub upper : ℕ → ℕ
upper b = to_ascii_uppercase b

-- one digit or more, and nothing else
abbrev pub are_digits : List ℕ → Bool
are_digits text = not (length text == 0) && list_all is_digit text

-- the number that digits spell
abbrev pub number_of : List ℕ → ℕ
number_of text = fold (λ n b. 10 * n + (b - 48)) 0 text

-- the greatest COUNT, INTERVAL, SEQUENCE and number of a duration that is accepted
abbrev pub greatest_number : ℕ
greatest_number = 2 ^ 32 - 1

-- the number that the digits from place i up to place j spell
abbrev pub number_at : List ℕ → ℕ → ℕ → ℕ
number_at text i j = number_of (slice_range text i j)

-- the byte at a place, in upper case
abbrev pub letter_at : List ℕ → ℕ → ℕ
letter_at text i = upper (slice_index text i)

-- how many digits begin the text
abbrev pub digit_count : List ℕ → ℕ
digit_count text = position_or_len (λ b. not (is_digit b)) text

-- the number, if it is not too large
abbrev pub SaysNumber : Option ℕ → ℕ → Type 0
SaysNumber (Some k) n = (k ≡ n) × (n ≤ greatest_number)
SaysNumber None n = greatest_number < n
