use Rattle.std.proofs.Common.{◌≡◌, ◌++◌, drop}
use Rattle.khal_words.specs.Formats.{filled}
use Rattle.khal_list.specs.Text.{day_field_text}
use Rattle.khal_list.proofs.heading.add_heading.Given as goal

-- what is added so far, and what the pieces left come to, are what was there and what all come to
abbrev pub invariant-loop-piece : goal.invariant-loop-piece
invariant-loop-piece l =
    l.text.items ++ filled (day_field_text l.day) (drop l.piece-index l.piece-items) ≡ l.fn.text.items ++ filled (day_field_text l.day) l.format.pieces.items
