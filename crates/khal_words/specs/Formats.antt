-- Formats: text with placeholders in braces. The form is the program's own.
use Rattle.std.specs.Prelude.{◌≡◌, ℕ, Bool, true, ◌==◌, ◌||◌, not, List, [], ◌∷◌, ◌++◌, codes, refl, if◌then◌else◌}
use Rattle.std.specs.List.{list_all}
use Rattle.ics_values.specs.declared.text_name.TextName.TheVariants as text
use Rattle.khal_words.specs.declared.field.EntryField.{EntryField}
use Rattle.khal_words.specs.declared.field.EntryField.TheVariants as entry
use Rattle.khal_words.specs.declared.field.DayField.{DayField}
use Rattle.khal_words.specs.declared.field.DayField.TheVariants as day
use Rattle.khal_words.specs.declared.format.FormatFault.{FormatFault}
use Rattle.khal_words.specs.declared.format.FormatFault.TheVariants.{BadFormat, Memory}
use Rattle.khal_words.specs.declared.format.Piece.{Piece}
use Rattle.khal_words.specs.declared.format.Piece.TheVariants.{Byte, Field}

-- the name of a placeholder of entries, and of days
abbrev pub entry_name : EntryField → List ℕ
entry_name entry.Cell = codes "cell"
entry_name (entry.Text text.Summary) = codes "title"
entry_name entry.StartTime = codes "start-time"
entry_name entry.EndTime = codes "end-time"
entry_name entry.StartDate = codes "start-date"
entry_name entry.EndDate = codes "end-date"
entry_name (entry.Text text.Location) = codes "location"
entry_name (entry.Text text.Description) = codes "description"
entry_name entry.Uid = codes "uid"
entry_name entry.Cancelled = codes "cancelled"
entry_name entry.StartUnix = codes "start-unix"
entry_name entry.EndUnix = codes "end-unix"
entry_name entry.Token = codes "token"
entry_name (entry.Text text.Url) = codes "url"

abbrev pub day_name : DayField → List ℕ
day_name day.Name = codes "name"
day_name day.Date = codes "date"

-- all of them
abbrev pub entry_fields : List EntryField
entry_fields =
    entry.Cell ∷ entry.Text text.Summary ∷ entry.StartTime ∷ entry.EndTime ∷ entry.StartDate ∷ entry.EndDate ∷ entry.Text text.Location
    ∷ entry.Text text.Description ∷ entry.Uid ∷ entry.Cancelled ∷ entry.StartUnix ∷ entry.EndUnix ∷ entry.Token ∷ entry.Text text.Url ∷ []

abbrev pub day_fields : List DayField
day_fields = day.Name ∷ day.Date ∷ []

-- a byte is a brace, and a text has none
abbrev pub is_brace : ℕ → Bool
is_brace b = b == 123 || b == 125

abbrev pub is_plain : List ℕ → Bool
is_plain text = list_all (λ b. not (is_brace b)) text

pub entry_names_plain : (field : EntryField) → is_plain (entry_name field) ≡ true
entry_names_plain (entry.Text text.Summary) = refl
entry_names_plain field = refl

pub day_names_plain : (field : DayField) → is_plain (day_name field) ≡ true
day_names_plain day.Name = refl
day_names_plain day.Date = refl

-- a piece as it is written in a format: a brace twice, any other byte as it is, and the name of a placeholder in braces
abbrev pub written_piece : {F : Type 0} → (F → List ℕ) → Piece F → List ℕ
written_piece name (Byte b) = if is_brace b then b ∷ b ∷ [] else b ∷ []
written_piece name (Field field) = 123 ∷ (name field ++ 125 ∷ [])

-- the text of a format of these pieces
abbrev pub written : {F : Type 0} → (F → List ℕ) → List (Piece F) → List ℕ
written name [] = []
written name (piece ∷ pieces) = written_piece name piece ++ written name pieces

-- a text is a format if it is that of some pieces
abbrev pub IsFormat : {F : Type 0} → (F → List ℕ) → List ℕ → Type 0
IsFormat {F} name text = (pieces : List (Piece F)) × (text ≡ written name pieces)

-- a text is that of at most one format
abbrev pub OneFormat : {F : Type 0} → (F → List ℕ) → Type 0
OneFormat {F} name = (a b : List (Piece F)) → written name a ≡ written name b → a ≡ b

-- the text of a piece: the byte, or the value of the placeholder
abbrev pub shown_piece : {F : Type 0} → (F → List ℕ) → Piece F → List ℕ
shown_piece value (Byte b) = b ∷ []
shown_piece value (Field field) = value field

-- the pieces with the values of their placeholders
abbrev pub filled : {F : Type 0} → (F → List ℕ) → List (Piece F) → List ℕ
filled value [] = []
filled value (piece ∷ pieces) = shown_piece value piece ++ filled value pieces

-- the formats if none is given
abbrev pub entry_default : List ℕ
entry_default = codes "{cell} {title}"

abbrev pub day_default : List ℕ
day_default = codes "{name}, {date}"

abbrev pub format_fault_name : FormatFault → List ℕ
format_fault_name BadFormat = codes "BadFormat"
format_fault_name Memory = codes "Memory"
