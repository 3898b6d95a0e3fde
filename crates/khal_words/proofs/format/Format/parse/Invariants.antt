use Rattle.std.proofs.Common.{◌≡◌, ◌++◌, length}
use Rattle.khal_words.specs.Formats.{written, IsFormat}
use Rattle.khal_words.proofs.format.Format.parse.Given as goal

-- the pieces so far and the rest are the text, and of a format the rest is one too
abbrev pub invariant-loop-rest : goal.invariant-loop-rest
invariant-loop-rest g l =
    let name = g.F.Placeholder.name in
    record {
      whole : l.text ≡ written name l.pieces.items ++ l.rest;
      left : IsFormat name l.text → IsFormat name l.rest;
    }

abbrev pub decreases-loop-rest : goal.decreases-loop-rest
decreases-loop-rest g l = length l.rest
