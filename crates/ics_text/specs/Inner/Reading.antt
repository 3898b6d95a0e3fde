-- What reading a file line by line gives, and a line in memory (RFC 5545, section 3.1).
use Rattle.std.specs.Prelude.{◌≡◌, ℕ, Bool, true, false, ◌==◌, List, [], ◌∷◌, Option, Some, None, if◌then◌else◌}
use Rattle.ics_text.specs.Bytes.{cr}
use Rattle.ics_text.specs.Passing.{IsPassed}
use Rattle.ics_text.specs.Unfolded.{Line, physical_lines, numbered, joined, is_line}
use Rattle.ics_text.specs.declared.logical.LineBytes.{LineBytes}
use Rattle.ics_text.specs.declared.logical.LineBytes.TheVariants.{Borrowed, Owned}

-- a physical line without one CR at its end
abbrev pub without_cr : List ℕ → List ℕ
without_cr [] = []
without_cr (b ∷ []) = if b == cr then [] else b ∷ []
without_cr (b ∷ c ∷ cs) = b ∷ without_cr (c ∷ cs)

-- the physical lines after a line end, if there is one
abbrev pub physical_behind : Option (List ℕ) → List (List ℕ)
physical_behind None = []
physical_behind (Some after) = physical_lines after

-- the line with these parts
abbrev pub line_of : ℕ → List ℕ → Bool → Line
line_of n bytes folded = record { number = n; bytes = bytes; folded = folded }

-- the lines of bytes, the first with number n, including empty ones
abbrev pub all_from : ℕ → List ℕ → List Line
all_from n bytes = joined (numbered n (physical_lines bytes))

-- a line and those after it, but without it if it is empty
abbrev pub kept : Line → List Line → List Line
kept line lines = if is_line line then line ∷ lines else lines

-- a line in memory: borrowed from the file unless it was folded
abbrev pub line_bytes : LineBytes → List ℕ
line_bytes (Borrowed bytes) = bytes.now
line_bytes (Owned bytes) = bytes.items

abbrev pub is_owned : LineBytes → Bool
is_owned (Borrowed bytes) = false
is_owned (Owned bytes) = true

abbrev pub line_by : ℕ → LineBytes → Line
line_by n bytes = line_of n (line_bytes bytes) (is_owned bytes)

-- The first line, which is left out if it is empty, and those behind it; none stands for one that is passed over.
abbrev pub Begins : (List ℕ → Bool) → ℕ → Option LineBytes → List Line → List Line → Type 0
Begins reads n (Some bytes) lines behind = lines ≡ kept (line_by n bytes) behind
Begins reads n None lines behind = IsPassed reads n lines behind
