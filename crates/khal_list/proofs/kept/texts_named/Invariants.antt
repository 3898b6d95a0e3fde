use Rattle.std.proofs.Common.{◌≡◌, drop}
use Rattle.std.specs.Prelude.{fold}
use Rattle.khal_list.specs.Inner.Kept.{texts_named, with_piece}
use Rattle.khal_list.proofs.kept.texts_named.Given as goal

-- what is kept so far, with what the pieces left name, is what all name
abbrev pub invariant-loop-piece : goal.invariant-loop-piece
invariant-loop-piece l = fold with_piece l.keep (drop l.piece-index l.piece-items) ≡ texts_named l.request.formats.entries.pieces.items
