-- The number of entries that `--limit` asks for.
use Rattle.std.specs.Prelude.{◌≡◌, ◌≤◌, ◌^◌, ◌&&◌, ⊤, ℕ, Bool, List, Option, Some, None, length, nat_lt, if◌then◌else◌}
use Rattle.std.specs.Char.{is_ascii_digit}
use Rattle.std.specs.List.{list_all}
use Rattle.std.specs.Str.Parse.{digits_value, without_leading_plus}

-- one digit or more, and nothing else, that spell a number below 2^32
abbrev pub is_number : List ℕ → Bool
is_number digits =
    (nat_lt 0 (length digits) && list_all is_ascii_digit digits) && nat_lt (digits_value 10 digits) (2 ^ 32)

abbrev pub number_in : List ℕ → Option ℕ
number_in digits = if is_number digits then Some (digits_value 10 digits) else None

-- the number that `u32` reads from a text, which may begin with a plus
abbrev pub number_of : List ℕ → Option ℕ
number_of text = number_in (without_leading_plus text)

-- the text spells a number from 1 to 4,294,967,295
abbrev pub IsLimit : List ℕ → Type 0
IsLimit text = (n : ℕ) × (number_of text ≡ Some n) × (1 ≤ n)

-- the number of a text, from 1 on, or none if there is no text
abbrev pub IsLimitOf : Option (List ℕ) → Option ℕ → Type 0
IsLimitOf None None = ⊤
IsLimitOf None (Some n) = ⊥
IsLimitOf (Some text) None = ⊥
IsLimitOf (Some text) (Some n) = (number_of text ≡ Some n) × (1 ≤ n)
