-- What stands for each text.
use Rattle.std.proofs.Common.{◌≡◌, true, ◌||◌, refl, arith}
use Rattle.ics_values.specs.KeptTexts.{KeptTexts}
use Rattle.ics_values.specs.TextNames.{same_text, text_at, texts_of, with_text}
use Rattle.ics_values.specs.declared.text_name.TextName.{TextName}
use Rattle.ics_values.specs.declared.text_name.TextName.TheVariants as text

pub text-of : {X : Type 0} (each : TextName → X) (name : TextName) → text_at name (texts_of each) ≡ each name
text-of each text.Summary = refl
text-of each _ = refl

pub text-is : (name : TextName) → same_text name name ≡ true
text-is text.Summary = refl
text-is _ = refl

-- with one of them kept, that one and those are kept that were
pub kept-with : (one name : TextName) (keep : KeptTexts) → text_at name (with_text one true keep) ≡ (text_at name keep || same_text one name)
kept-with text.Summary text.Summary keep = grind arith
kept-with _ _ keep = grind arith
