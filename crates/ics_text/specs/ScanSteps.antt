-- Which bytes may follow each other in a content line, read from the left (RFC 5545, section 3.1).
use Rattle.std.specs.Prelude.{ℕ, ◌+◌, ◌==◌, List, [], ◌∷◌, Option, Some, None, option_map, if◌then◌else◌}
use Rattle.ics_text.specs.Bytes.{dquote, comma, colon, semicolon, equals, is_name_byte, is_quoted_byte, is_plain_byte}

-- A state of the scanner of a content line: what was read before the next byte.
pub data ScanState : Type 0 where
  Start : ScanState
  InName : ScanState
  BeforeParam : ScanState
  InParam : ScanState
  BeforeValue : ScanState
  InPlain : ScanState
  InQuotes : ScanState
  AfterQuotes : ScanState

-- What a byte does: it leads to the next state, it is the colon before the value, or it is not allowed.
pub data Move : Type 0 where
  On : ScanState → Move
  Value : Move
  Refused : Move

-- after a value of a parameter: the byte ends it, or it is not allowed
abbrev pub ends_value : ℕ → Move
ends_value b =
    if b == comma then On BeforeValue
    else if b == semicolon then On BeforeParam
    else if b == colon then Value
    else Refused

-- in an unquoted value: the byte continues it or ends it, or it is not allowed
abbrev pub in_value : ℕ → Move
in_value b = if is_plain_byte b then On InPlain else ends_value b

-- what a byte does in a state
abbrev pub step : ScanState → ℕ → Move
step Start b = if is_name_byte b then On InName else Refused
step InName b =
    if is_name_byte b then On InName
    else if b == semicolon then On BeforeParam
    else if b == colon then Value
    else Refused
step BeforeParam b = if is_name_byte b then On InParam else Refused
step InParam b = if is_name_byte b then On InParam else if b == equals then On BeforeValue else Refused
step BeforeValue b = if b == dquote then On InQuotes else in_value b
step InPlain b = in_value b
step InQuotes b = if b == dquote then On AfterQuotes else if is_quoted_byte b then On InQuotes else Refused
step AfterQuotes b = ends_value b

-- the count with one more byte, by what that byte does and by the count of the rest
abbrev pub counted : Move → (ScanState → Option ℕ) → Option ℕ
counted (On state) more = option_map (λ n. n + 1) (more state)
counted Value more = Some 0
counted Refused more = None

-- the number of bytes before the colon of the value, in a text that is read from a state on
abbrev pub colon_from : List ℕ → ScanState → Option ℕ
colon_from [] state = None
colon_from (b ∷ bs) state = counted (step state b) (colon_from bs)
