use Rattle.std.proofs.Common.{◌≡◌, ◌++◌, drop}
use Rattle.ics_listing.specs.Entry.{entry_of}
use Rattle.khal_words.specs.Formats.{filled}
use Rattle.khal_list.specs.Listed.{style_of}
use Rattle.khal_list.specs.Text.{entry_field_text}
use Rattle.khal_list.proofs.line.add_line.Given as goal

-- what is added so far, and what the pieces left come to, are what was there and what all come to
abbrev pub invariant-loop-piece : goal.invariant-loop-piece
invariant-loop-piece l =
    let value = entry_field_text (style_of l.request) l.day (entry_of l.occurrence) in
    l.text.items ++ filled value (drop l.piece-index l.piece-items) ≡ l.fn.text.items ++ filled value l.request.formats.entries.pieces.items
