-- The lines of a file, unfolded (RFC 5545, section 3.1).
use Rattle.std.specs.Prelude.{◌≡◌, ℕ, zero, suc, length, take, ◌+◌, ◌-◌, ◌<◌, ◌≤◌, Bool, true, false, ◌&&◌, not, ◌==◌, nat_eq, List, [], ◌∷◌, ◌++◌, drop}
use Rattle.std.specs.Prelude.{filter, Option, Some, None, if◌then◌else◌}
use Rattle.std.specs.List.{starts_with}
use Rattle.ics_text.specs.Bytes.{lf, cr, is_blank, begins, is_empty}

-- A line: the number of its first physical line, its bytes, and whether it was joined from several physical lines.
pub record Line : Type 0 where
  pub number : ℕ
  pub bytes : List ℕ
  pub folded : Bool

-- the bytes without the byte order mark that may begin them
abbrev pub without_mark : List ℕ → List ℕ
without_mark bytes = if starts_with nat_eq bytes (239 ∷ 187 ∷ 191 ∷ []) then drop 3 bytes else bytes

-- the lines with a byte put before the first of them
abbrev pub onto_first : ℕ → List (List ℕ) → List (List ℕ)
onto_first b [] = (b ∷ []) ∷ []
onto_first b (line ∷ lines) = (b ∷ line) ∷ lines

-- The physical lines: a line ends at an LF, and one CR directly before the LF belongs to that end.
-- There is always one line more than there are LFs.
abbrev pub physical_lines : List ℕ → List (List ℕ)
physical_lines [] = [] ∷ []
physical_lines (b ∷ bs) =
    let later = physical_lines bs in
    if b == lf then [] ∷ later
    else if b == cr && begins (λ c. c == lf) bs then later
    else onto_first b later

-- the physical lines with their numbers, from n on
abbrev pub numbered : ℕ → List (List ℕ) → List Line
numbered n [] = []
numbered n (line ∷ lines) = record { number = n; bytes = line; folded = false } ∷ numbered (n + 1) lines

-- whether the next physical line continues the line before it
abbrev pub goes_on : List Line → Bool
goes_on [] = false
goes_on (line ∷ lines) = begins is_blank line.bytes

-- the bytes of the first line of a list
abbrev pub first_bytes : List Line → List ℕ
first_bytes [] = []
first_bytes (line ∷ lines) = line.bytes

-- a line with the first line of the list appended, but for the latter's first byte
abbrev pub attach : Line → List Line → List Line
attach line lines = record { number = line.number; bytes = line.bytes ++ drop 1 (first_bytes lines); folded = true } ∷ drop 1 lines

-- A physical line that begins with SPACE or HTAB is joined, without that byte, to the physical line before it.
abbrev pub joined : List Line → List Line
joined [] = []
joined (line ∷ lines) =
    let later = joined lines in
    if goes_on lines then attach line later else line ∷ later

-- the line is not empty
abbrev pub is_line : Line → Bool
is_line line = not (is_empty line.bytes)

-- the lines of bytes, the first with number n, without empty ones
abbrev pub lines_from : ℕ → List ℕ → List Line
lines_from n bytes = filter is_line (joined (numbered n (physical_lines bytes)))

-- the lines of a file
abbrev pub unfolded : List ℕ → List Line
unfolded file = lines_from 1 (without_mark file)

-- the file begins with a fold, which has no line to continue
abbrev pub begins_with_fold : List ℕ → Bool
begins_with_fold file = begins is_blank (without_mark file)

-- there is a first line, and it is folded
abbrev pub BeginsFolded : List Line → Type 0
BeginsFolded [] = ⊥
BeginsFolded (line ∷ lines) = line.folded ≡ true

-- a call took the first of the lines still to come, or None at the end, where none come any more
abbrev pub Takes : List Line → Option Line → List Line → Type 0
Takes old None new = (old ≡ []) × (new ≡ [])
Takes old (Some line) new = old ≡ line ∷ new

-- the bytes after the first LF
abbrev pub behind_lf : List ℕ → List ℕ
behind_lf [] = []
behind_lf (b ∷ bs) = if b == lf then bs else behind_lf bs

-- the bytes after the first n LFs
abbrev pub behind_lfs : ℕ → List ℕ → List ℕ
behind_lfs zero bytes = bytes
behind_lfs (suc n) bytes = behind_lfs n (behind_lf bytes)

-- The bytes of the line are in the file, where the physical line with its number begins.
abbrev pub StandsIn : List ℕ → Line → Type 0
StandsIn file line = take (length line.bytes) (behind_lfs (line.number - 1) (without_mark file)) ≡ line.bytes

-- the numbers rise strictly, from above n
abbrev pub Rises : ℕ → List Line → Type 0
Rises n [] = Unit {0}
Rises n (line ∷ lines) = (n < line.number) × Rises line.number lines

-- no number is greater than n
abbrev pub Within : ℕ → List Line → Type 0
Within n [] = Unit {0}
Within n (line ∷ lines) = (line.number ≤ n) × Within n lines
