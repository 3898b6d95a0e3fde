-- The token of a key, and of one under a day: the one text that spells it. The form is the program's own.
use Rattle.std.specs.Prelude.{◌≡◌, ℕ, List, ◌∷◌, ◌++◌, codes, FitsSigned}
use Rattle.std.specs.Fmt.{signed_decimal}
use Rattle.std.specs.Int.{w64, w32}
use Rattle.hex.specs.Hex.{IsBytes, encode_lower}
use Rattle.ics_listing.specs.Entry.{Rank}
use Rattle.ics_listing.specs.declared.token.TokenFault.{TokenFault}
use Rattle.ics_listing.specs.declared.token.TokenFault.TheVariants.{BadToken, Memory}
use Rattle.ics_listing.specs.DayKeys.{DayRank}

-- a key that has a token: its moments fit in an i64, and its UID is made of bytes
pub record IsKey (key : Rank) : Type 0 where
  pub start : FitsSigned w64 key.start
  pub recurrence : FitsSigned w64 key.recurrence
  pub uid : IsBytes key.uid

-- `K1.start.recurrence.uid`, with the moments in decimal and the UID in lower-case hexadecimal
abbrev pub spelling : Rank → List ℕ
spelling key = codes "K1." ++ (signed_decimal key.start ++ (46 ∷ (signed_decimal key.recurrence ++ (46 ∷ encode_lower key.uid))))

-- a text is a token if it spells such a key
abbrev pub IsToken : List ℕ → Type 0
IsToken text = (key : Rank) × IsKey key × (text ≡ spelling key)

-- a key has one token, and no two keys have the same
abbrev pub OneSpelling : Type 0
OneSpelling = (a b : Rank) → IsKey a → IsKey b → spelling a ≡ spelling b → a ≡ b

abbrev pub token_fault_name : TokenFault → List ℕ
token_fault_name BadToken = codes "BadToken"
token_fault_name Memory = codes "Memory"

-- a key that has a token: its day fits in an i32
pub record IsDayKey (key : DayRank) : Type 0 where
  pub day : FitsSigned w32 key.day
  pub is_key : IsKey key.key

-- `K2.day.start.recurrence.uid`, with the day and the moments in decimal and the UID in lower-case hexadecimal
abbrev pub day_spelling : DayRank → List ℕ
day_spelling key =
    codes "K2." ++ (signed_decimal key.day
    ++ (46 ∷ (signed_decimal key.key.start ++ (46 ∷ (signed_decimal key.key.recurrence ++ (46 ∷ encode_lower key.key.uid))))))

-- a text is a token if it spells such a key
abbrev pub IsDayToken : List ℕ → Type 0
IsDayToken text = (key : DayRank) × IsDayKey key × (text ≡ day_spelling key)

-- a key under a day has one token, and no two keys have the same
abbrev pub OneDaySpelling : Type 0
OneDaySpelling = (a b : DayRank) → IsDayKey a → IsDayKey b → day_spelling a ≡ day_spelling b → a ≡ b
