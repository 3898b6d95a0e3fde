-- THE TEXTS of events that a format names. No other is kept of the files.
use Rattle.std.specs.Prelude.{true, List, fold}
use Rattle.ics_values.specs.KeptTexts.{no_texts}
use Rattle.ics_values.specs.TextNames.{with_text}
use Rattle.ics_event.specs.Kept.{KeptTexts}
use Rattle.khal_words.specs.declared.field.EntryField.{EntryField}
use Rattle.khal_words.specs.declared.field.EntryField.TheVariants.{Text}
use Rattle.khal_words.specs.declared.format.Piece.{Piece}
use Rattle.khal_words.specs.declared.format.Piece.TheVariants.{Field}

-- these, and that of a piece if it names one
abbrev pub with_piece : KeptTexts → Piece EntryField → KeptTexts
with_piece keep (Field (Text name)) = with_text name true keep
with_piece keep _ = keep

abbrev pub texts_named : List (Piece EntryField) → KeptTexts
texts_named pieces = fold with_piece no_texts pieces
