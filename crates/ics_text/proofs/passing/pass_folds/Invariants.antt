use Rattle.std.proofs.Common.{◌≡◌, ◌+◌, ◌≤◌, ◌++◌, ℕ, List, false, length, filter}
use Rattle.ics_text.specs.Unfolded.{attach, is_line, physical_lines}
use Rattle.ics_text.specs.Inner.Reading.{line_of, all_from}
use Rattle.ics_text.proofs.Joins.{grown}
use Rattle.ics_text.proofs.passing.pass_folds.Given as goal

-- what is passed over so far, and what is left, make the first line and those behind it
abbrev pub invariant-loop-behind : goal.invariant-loop-behind
invariant-loop-behind l = record {
  grows : (more : List ℕ) × ((n : ℕ) (first : List ℕ) → filter is_line (attach (line_of n first false) (all_from (n + 1) l.after))
      ≡ filter is_line (grown n (first ++ more) (n + l.breaks) l.rest));
  counted : l.breaks + length (physical_lines l.rest) ≡ length (physical_lines l.after) + 1;
  fewer : l.breaks + length l.rest ≤ length l.after + 1;
  some : 1 ≤ l.breaks;
}

abbrev pub decreases-loop-behind : goal.decreases-loop-behind
decreases-loop-behind l = length l.rest
