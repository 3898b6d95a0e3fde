-- EVENTS OF WHICH SOME TEXTS ARE KEPT: each text is the event's own or empty, and nothing else is changed.
pub use Rattle.ics_values.specs.KeptTexts.{KeptTexts}
use Rattle.ics_values.specs.KeptTexts.{kept_text}
use Rattle.ics_values.specs.TextNames.{text_at, texts_of}
use Rattle.ics_event.specs.Event.{EventSeen, texts_in, with_texts}

abbrev pub kept_event : KeptTexts → EventSeen → EventSeen
kept_event keep event = with_texts (texts_of (λ name. kept_text (text_at name keep) (text_at name (texts_in event)))) event
