use Rattle.std.proofs.Common.{◌+◌, length, arith}
use Rattle.ics_components.proofs.taken_lines.TakenLines.lines.Goals as goal

pub lines-requires-clause-lines : goal.lines-requires-clause-lines
lines-requires-clause-lines c =
    let part = c.in_ok-part.part in
    (part.breaks + length part.bytes + 1, omega (arith, c.requires.bytes, c.in_ok-part.ensures.shorter), c.part_numbers_within.ensures.lines part)
