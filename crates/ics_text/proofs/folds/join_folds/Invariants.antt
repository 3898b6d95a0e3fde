use Rattle.std.proofs.Common.{◌≡◌, ◌+◌, ◌≤◌, ℕ, false, length, filter}
use Rattle.ics_text.specs.Unfolded.{attach, is_line, physical_lines}
use Rattle.ics_text.specs.Inner.Reading.{line_of, all_from}
use Rattle.ics_text.proofs.Joins.{grown}
use Rattle.ics_text.proofs.folds.join_folds.Given as goal

-- what is joined so far, and what is left, make the first line and those behind it
abbrev pub invariant-loop-line : goal.invariant-loop-line
invariant-loop-line l = record {
  grows : (n : ℕ) → filter is_line (attach (line_of n l.first false) (all_from (n + 1) l.after)) ≡ filter is_line (grown n l.bytes.items (n + l.breaks) l.rest);
  counted : l.breaks + length (physical_lines l.rest) ≡ length (physical_lines l.after) + 1;
  fewer : l.breaks + length l.rest ≤ length l.after + 1;
  some : 1 ≤ l.breaks;
}

abbrev pub decreases-loop-line : goal.decreases-loop-line
decreases-loop-line l = length l.rest
