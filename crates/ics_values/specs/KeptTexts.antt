-- Which texts of an event are kept, where not all are asked for.
use Rattle.std.specs.Prelude.{ℕ, Bool, true, false, List, [], if◌then◌else◌}
use Rattle.ics_values.specs.TextNames.{texts_of}
use Rattle.ics_values.specs.declared.text_name.Texts.{Texts}

-- a set of them: whether each is kept
abbrev pub KeptTexts : Type 0
KeptTexts = Texts Bool

abbrev pub all_texts : KeptTexts
all_texts = texts_of (λ name. true)

abbrev pub no_texts : KeptTexts
no_texts = texts_of (λ name. false)

-- a text that is kept, or the empty one
abbrev pub kept_text : Bool → List ℕ → List ℕ
kept_text kept text = if kept then text else []
