-- What contracts see of the texts of a window.
use Rattle.std.specs.Prelude.{option_map}
use Rattle.khal_words.specs.Entries as entries
use Rattle.khal_words.specs.declared.span.Span.{Span}
use Rattle.khal_words.specs.declared.span.Span.TheVariants.{At, FromTo}

abbrev pub span_by : Span → entries.Span
span_by (At text) = entries.Span.At text.now
span_by (FromTo start end) = entries.Span.FromTo (option_map (λ text. text.now) start) end.now
