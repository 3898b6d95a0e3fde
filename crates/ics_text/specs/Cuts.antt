-- WHERE A FILE MAY BE CUT so that each line stands on one side: behind a line end, and before a line that continues none (RFC 5545, section 3.1).
use Rattle.std.specs.Prelude.{◌≡◌, ℕ, Bool, true, false, not, ◌==◌, List, [], ◌∷◌}
use Rattle.ics_text.specs.Bytes.{begins, is_blank, lf}

-- there is a first byte, and it continues no line
abbrev pub begins_line : List ℕ → Bool
begins_line bytes = begins (λ b. not (is_blank b)) bytes

-- there is a last byte, and it is an LF
abbrev pub ends_line : List ℕ → Bool
ends_line [] = false
ends_line (b ∷ []) = b == lf
ends_line (b ∷ c ∷ cs) = ends_line (c ∷ cs)

pub record IsCut (head rest : List ℕ) : Type 0 where
  pub ends : ends_line head ≡ true
  pub begins : begins_line rest ≡ true
