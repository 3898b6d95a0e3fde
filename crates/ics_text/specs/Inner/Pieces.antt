-- Where a piece between separators ends (RFC 5545, section 3.1).
use Rattle.std.specs.Prelude.{ℕ, ◌+◌, Bool, false, ◌&&◌, not, ◌==◌, List, [], ◌∷◌, take, drop, Option, Some, None, option_map, if◌then◌else◌}
use Rattle.ics_text.specs.ContentLines.{pieces, turned}

-- the position of the first separator outside quotes
abbrev pub cut_from : ℕ → Bool → List ℕ → Option ℕ
cut_from sep quoted [] = None
cut_from sep quoted (b ∷ bs) = if b == sep && not quoted then Some 0 else option_map (λ n. n + 1) (cut_from sep (turned quoted b) bs)

-- the pieces after a separator, if there is one
abbrev pub pieces_behind : ℕ → Option (List ℕ) → List (List ℕ)
pieces_behind sep None = []
pieces_behind sep (Some text) = pieces sep false text

-- the first piece and those after it, by the position of the separator between
abbrev pub pieces_by : ℕ → List ℕ → Option ℕ → List (List ℕ)
pieces_by sep text None = text ∷ []
pieces_by sep text (Some n) = take n text ∷ pieces sep false (drop (n + 1) text)
