use Rattle.std.proofs.Common.{◌≡◌, ◌+◌, ◌-◌, ◌≤◌, drop, length}
use Rattle.std.specs.List.{prefix_len}
use Rattle.ics_text.specs.Bytes.{in_line}
use Rattle.ics_text.proofs.line_end.line_len.Given as goal

-- no byte that was looked at ends the line
abbrev pub invariant-loop-at : goal.invariant-loop-at
invariant-loop-at l = record {
  passed : prefix_len in_line l.bytes ≡ l.at + prefix_len in_line (drop l.at l.bytes);
  within : l.at ≤ length l.bytes;
}

abbrev pub decreases-loop-at : goal.decreases-loop-at
decreases-loop-at l = length l.bytes - l.at
