-- The bytes that have a name in the format, and tests of bytes (RFC 5545, section 3.1).
use Rattle.std.specs.Prelude.{ℕ, Bool, true, false, ◌&&◌, ◌||◌, not, ◌==◌, nat_le, List, [], ◌∷◌}
use Rattle.std.specs.Char.{to_ascii_uppercase}

abbrev pub htab : ℕ
htab = 9

abbrev pub lf : ℕ
lf = 10

abbrev pub cr : ℕ
cr = 13

abbrev pub space : ℕ
space = 32

abbrev pub dquote : ℕ
dquote = 34

abbrev pub comma : ℕ
comma = 44

abbrev pub colon : ℕ
colon = 58

abbrev pub semicolon : ℕ
semicolon = 59

abbrev pub equals : ℕ
equals = 61

abbrev pub is_between : ℕ → ℕ → ℕ → Bool
is_between low high b = nat_le low b && nat_le b high

-- the byte ends no line
abbrev pub in_line : ℕ → Bool
in_line b = not (b == lf)

abbrev pub is_blank : ℕ → Bool
is_blank b = b == space || b == htab

-- bytes 0 to 8, 10 to 31 and 127
abbrev pub is_control : ℕ → Bool
is_control b = (nat_le b 31 && not (b == htab)) || b == 127

abbrev pub is_digit : ℕ → Bool
is_digit = is_between 48 57

-- letter, digit, `-` and `_`
abbrev pub is_name_byte : ℕ → Bool
is_name_byte b = is_between 65 90 b || is_between 97 122 b || is_digit b || b == 45 || b == 95

-- the bytes of a quoted value of a parameter
abbrev pub is_quoted_byte : ℕ → Bool
is_quoted_byte b = not (b == dquote) && not (is_control b)

-- the bytes of an unquoted value of a parameter
abbrev pub is_plain_byte : ℕ → Bool
is_plain_byte b = is_quoted_byte b && not (b == semicolon) && not (b == colon) && not (b == comma)

-- there is a first byte, and it passes the test
abbrev pub begins : (ℕ → Bool) → List ℕ → Bool
begins p [] = false
begins p (b ∷ bs) = p b

-- the byte in upper case if it is a letter, and else the byte
abbrev pub upper : ℕ → ℕ
upper b = to_ascii_uppercase b

-- the two texts are equal but for the case of letters
abbrev pub same_name : List ℕ → List ℕ → Bool
same_name [] [] = true
same_name [] (c ∷ cs) = false
same_name (b ∷ bs) [] = false
same_name (b ∷ bs) (c ∷ cs) = (upper b == upper c) && same_name bs cs

abbrev pub is_empty : List ℕ → Bool
is_empty [] = true
is_empty (b ∷ bs) = false
