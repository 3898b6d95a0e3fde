use Rattle.std.proofs.Common.{◌≡◌, ◌+◌, ◌<◌, ◌^◌, length}
use Rattle.ics_text.specs.Parts.{last_number, lines_left}
use Rattle.ics_text.specs.Unfolded.{lines_from, physical_lines}
use Rattle.ics_text.proofs.part_lines.PartLines.next_read.Given as goal

-- only empty lines were passed over
abbrev pub invariant-lines : goal.invariant-lines
invariant-lines g l = record {
  passed : lines_from (l.self-inside.breaks + 1) l.self-inside.rest.now ≡ lines_left l.fn.self;
  counted : l.self-inside.breaks + length (physical_lines l.self-inside.rest.now) ≡ last_number l.fn.self;
  fits : l.self-inside.breaks + length l.self-inside.rest.now < 2 ^ 64;
}

abbrev pub decreases-lines : goal.decreases-lines
decreases-lines g l = length l.self-inside.rest.now
