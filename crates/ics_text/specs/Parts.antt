-- A part of a file, and the lines of it (RFC 5545, section 3.1).
use Rattle.std.specs.Prelude.{ℕ, ◌+◌, List, length}
use Rattle.ics_text.specs.Unfolded.{Line, lines_from, physical_lines}

-- bytes, and the number of line ends before them
pub record Part : Type 0 where
  pub breaks : ℕ
  pub bytes : List ℕ

-- its lines
abbrev pub lines_left : Part → List Line
lines_left part = lines_from (part.breaks + 1) part.bytes

-- the number of its last physical line, which no LF ends
abbrev pub last_number : Part → ℕ
last_number part = part.breaks + length (physical_lines part.bytes)
