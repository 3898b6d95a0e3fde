-- What a TEXT value means (RFC 5545, section 3.3.11).
use Rattle.std.specs.Prelude.{ℕ, Bool, false, ◌&&◌, ◌||◌, not, ◌==◌, List, [], ◌∷◌, if◌then◌else◌}

-- `\\`, `\;` and `\,` mean their second byte
abbrev pub stands_for_itself : ℕ → Bool
stands_for_itself b = b == 92 || b == 59 || b == 44

-- `\n` and `\N` mean LF
abbrev pub stands_for_lf : ℕ → Bool
stands_for_lf b = b == 110 || b == 78

-- what a text means; `behind` says whether it is preceded by a backslash that is not the second byte of an escape
abbrev pub plain_text : List ℕ → Bool → List ℕ
plain_text [] behind = if behind then 92 ∷ [] else []
plain_text (b ∷ bs) behind =
    let later = plain_text bs (b == 92 && not behind) in
    if not behind then (if b == 92 then later else b ∷ later)
    else if stands_for_itself b then b ∷ later
    else if stands_for_lf b then 10 ∷ later
    else 92 ∷ b ∷ later

-- a TEXT value without its escapes
abbrev pub text_of : List ℕ → List ℕ
text_of value = plain_text value false

-- the text with the escapes that a TEXT value needs
abbrev pub escaped : List ℕ → List ℕ
escaped [] = []
escaped (b ∷ bs) =
    let later = escaped bs in
    if stands_for_itself b then 92 ∷ b ∷ later
    else if b == 10 then 92 ∷ 110 ∷ later
    else b ∷ later
