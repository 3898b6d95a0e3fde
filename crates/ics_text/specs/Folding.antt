-- Lines as they may be written, with folds (RFC 5545, section 3.1).
use Rattle.std.specs.Prelude.{◌≡◌, ◌≢◌, ℕ, ◌+◌, Bool, true, false, not, ◌==◌, List, [], ◌∷◌, ◌++◌, length, if◌then◌else◌}
use Rattle.std.specs.List.{flat_map, list_all}
use Rattle.ics_text.specs.Bytes.{lf, cr, is_blank, begins}
use Rattle.ics_text.specs.Unfolded.{Line}

-- A fold: whether its line end has a CR, its SPACE or HTAB, and the bytes after that up to the next fold.
pub record Fold : Type 0 where
  pub with_cr : Bool
  pub blank : ℕ
  pub bytes : List ℕ

-- A line as it is written: its bytes up to the first fold, its folds, and whether its line end has a CR.
pub record Written : Type 0 where
  pub first : List ℕ
  pub folds : List Fold
  pub with_cr : Bool

-- CRLF, or LF alone
abbrev pub line_end : Bool → List ℕ
line_end with_cr = if with_cr then cr ∷ lf ∷ [] else lf ∷ []

abbrev pub fold_text : Fold → List ℕ
fold_text f = line_end f.with_cr ++ (f.blank ∷ f.bytes)

-- the line as it is written in a file
abbrev pub written_text : Written → List ℕ
written_text w = w.first ++ (flat_map fold_text w.folds ++ line_end w.with_cr)

-- the line before it was folded
abbrev pub folded_bytes : Written → List ℕ
folded_bytes w = w.first ++ flat_map (λ f. f.bytes) w.folds

abbrev pub is_folded : List Fold → Bool
is_folded [] = false
is_folded (f ∷ fs) = true

-- The lines before they were folded, the first with number n. Each physical line has a number.
abbrev pub folded_lines : ℕ → List Written → List Line
folded_lines n [] = []
folded_lines n (w ∷ ws) = record { number = n; bytes = folded_bytes w; folded = is_folded w.folds } ∷ folded_lines (n + 1 + length w.folds) ws

-- The bytes may be followed by that line end: none of them is an LF, and if the line end is an LF alone, the last is not a CR,
-- which would belong to the line end.
pub record StandsBefore (with_cr : Bool) (bytes : List ℕ) : Type 0 where
  pub no_lf : list_all (λ b. not (b == lf)) bytes ≡ true
  pub no_cr : with_cr ≡ false → (front : List ℕ) → bytes ≢ front ++ (cr ∷ [])

-- The bytes and those of each fold may be followed by the line end after them, and the blank of each fold is SPACE or HTAB.
abbrev pub AreFolds : List ℕ → List Fold → Bool → Type 0
AreFolds bytes [] with_cr = StandsBefore with_cr bytes
AreFolds bytes (f ∷ fs) with_cr = StandsBefore f.with_cr bytes × ((is_blank f.blank ≡ true) × AreFolds f.bytes fs with_cr)

-- A line that a file can hold: it is not empty, it does not begin with a blank, and its folds are valid.
pub record IsWritten (w : Written) : Type 0 where
  pub some : folded_bytes w ≢ []
  pub front : begins is_blank w.first ≡ false
  pub folds : AreFolds w.first w.folds w.with_cr
