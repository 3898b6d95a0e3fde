-- How the parts of a content line are read, one after another (RFC 5545, section 3.1).
use Rattle.std.specs.Prelude.{ℕ, ◌+◌, ◌==◌, List, [], ◌∷◌, drop, Option, Some, None, option_map, if◌then◌else◌}
use Rattle.ics_text.specs.Bytes.{colon, semicolon}
use Rattle.ics_text.specs.ScanSteps.{BeforeParam, colon_from}

-- the number of bytes before the colon of the value, in a text behind a name or a parameter
abbrev pub colon_behind : List ℕ → Option ℕ
colon_behind [] = None
colon_behind (b ∷ bs) = if b == semicolon then option_map (λ n. n + 1) (colon_from bs BeforeParam) else if b == colon then Some 0 else None

-- that number in a text, by how the rest is read behind its first bytes. There is none if these cannot be read
abbrev pub past : (List ℕ → Option ℕ) → List ℕ → Option ℕ → Option ℕ
past rest_of text None = None
past rest_of text (Some len) = option_map (λ n. n + len) (rest_of (drop len text))
