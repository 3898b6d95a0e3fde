-- What a content line is, and what its parameters say (RFC 5545, section 3.1).
use Rattle.std.specs.Prelude.{◌≡◌, ◌≢◌, ℕ, ◌+◌, ◌-◌, Bool, true, false, ◌&&◌, not, ◌==◌, List, [], ◌∷◌, ◌++◌, length, take, drop, Option, Some, None}
use Rattle.std.specs.Prelude.{option_map, if◌then◌else◌}
use Rattle.std.specs.List.{flat_map, AllByRecursion, list_all, take_while, prefix_len}
use Rattle.ics_text.specs.ScanSteps.{Start, colon_from}
use Rattle.ics_text.specs.Unfolded.{onto_first}
use Rattle.ics_text.specs.Bytes.{dquote, comma, colon, semicolon, equals, is_name_byte, is_quoted_byte, is_plain_byte, same_name, begins}

-- A value of a parameter: whether it is quoted, and its bytes without the quotes.
pub record Value : Type 0 where
  pub quoted : Bool
  pub bytes : List ℕ

-- A parameter: its name and one or more values.
pub record Param : Type 0 where
  pub name : List ℕ
  pub first : Value
  pub others : List Value

-- a value as it is written
abbrev pub value_text : Value → List ℕ
value_text v = if v.quoted then dquote ∷ v.bytes ++ dquote ∷ [] else v.bytes

-- a parameter as it is written, including its `;`
abbrev pub param_text : Param → List ℕ
param_text p = semicolon ∷ p.name ++ equals ∷ value_text p.first ++ flat_map (λ v. comma ∷ value_text v) p.others

abbrev pub params_text : List Param → List ℕ
params_text ps = flat_map param_text ps

-- a name is one byte or more
pub record IsName (name : List ℕ) : Type 0 where
  pub some : name ≢ []
  pub bytes : list_all is_name_byte name ≡ true

-- A quoted value contains no quote and no control character. An unquoted one also contains no `;`, `:` or `,`.
abbrev pub IsValue : Value → Type 0
IsValue v = list_all (if v.quoted then is_quoted_byte else is_plain_byte) v.bytes ≡ true

pub record IsParam (p : Param) : Type 0 where
  pub name : IsName p.name
  pub first : IsValue p.first
  pub others : AllByRecursion IsValue p.others

-- The text is that of the parameters, and each of them is valid.
pub record IsParams (text : List ℕ) (ps : List Param) : Type 0 where
  pub in_order : AllByRecursion IsParam ps
  pub spelled : text ≡ params_text ps

-- The line is a name, parameters, a colon and a value, which may be any bytes.
pub record IsContent (line name params value : List ℕ) : Type 0 where
  pub ps : List Param
  pub name_ok : IsName name
  pub params_ok : IsParams params ps
  pub spelled : line ≡ name ++ params ++ colon ∷ value

-- the first value of the first parameter with that name
abbrev pub first_value : List ℕ → List Param → Option (List ℕ)
first_value name [] = None
first_value name (p ∷ ps) = if same_name name p.name then Some p.first.bytes else first_value name ps

-- The parts of a content line, as they are written in it.
pub record Parts : Type 0 where
  pub name : List ℕ
  pub params : List ℕ
  pub value : List ℕ

-- the parts of a line whose name has len bytes, and n bytes before the colon of its value
abbrev pub cut_by : List ℕ → ℕ → ℕ → Parts
cut_by line len n = record { name = take len line; params = take (n - len) (drop len line); value = drop (n + 1) line }

abbrev pub cut_at : List ℕ → ℕ → Parts
cut_at line n = cut_by line (prefix_len is_name_byte line) n

-- the parts of a line, if it is a content line
abbrev pub content_of : List ℕ → Option Parts
content_of line = option_map (cut_at line) (colon_from line Start)

-- whether the text after a byte is between quotes
abbrev pub turned : Bool → ℕ → Bool
turned quoted b = if b == dquote then not quoted else quoted

-- the pieces between the separators outside quotes
abbrev pub pieces : ℕ → Bool → List ℕ → List (List ℕ)
pieces sep quoted [] = [] ∷ []
pieces sep quoted (b ∷ bs) =
    let later = pieces sep (turned quoted b) bs in
    if b == sep && not quoted then [] ∷ later else onto_first b later

-- a value without its quotes
abbrev pub without_quotes : List ℕ → List ℕ
without_quotes text = if begins (λ b. b == dquote) text then take (length text - 2) (drop 1 text) else text

-- the text after the name that begins it
abbrev pub after_name : List ℕ → List ℕ
after_name text = drop (prefix_len is_name_byte text) text

abbrev pub first_piece : List (List ℕ) → List ℕ
first_piece [] = []
first_piece (piece ∷ more) = piece

-- the first value of a parameter, whose text is given without the `;`
abbrev pub first_of_text : List ℕ → List ℕ
first_of_text text = without_quotes (first_piece (pieces comma false (drop 1 (after_name text))))

-- the first value of the first of these parameters with that name
abbrev pub value_among : List ℕ → List (List ℕ) → Option (List ℕ)
value_among name [] = None
value_among name (text ∷ texts) =
    if same_name name (take_while is_name_byte text) then Some (first_of_text text) else value_among name texts

-- the first value of the first parameter with that name, in the text of the parameters
abbrev pub param_of : List ℕ → List ℕ → Option (List ℕ)
param_of name params = value_among name (drop 1 (pieces semicolon false params))
