-- What few events have, as contracts see it.
use Rattle.std.specs.Prelude.{ℕ, Bool, false, List, [], Option, Some, None}
use Rattle.std.specs.Global.{Box}
use Rattle.ics_event.specs.Event.{Rdate, Time}
use Rattle.ics_values.specs.KeptTexts.{KeptTexts, kept_text}
use Rattle.ics_values.specs.declared.text_name.Texts.{Texts}

-- What an event has beside what each has.
pub record MoreSeen : Type 0 where
  pub cancelled : Bool
  pub rdates : List Rdate
  pub exdates : List Time
  pub location : List ℕ
  pub description : List ℕ
  pub url : List ℕ

-- none of it
abbrev pub no_more : MoreSeen
no_more = record { cancelled = false; rdates = []; exdates = []; location = []; description = []; url = [] }

-- that of an event
abbrev pub more_in : Option (Box MoreSeen) → MoreSeen
more_in None = no_more
more_in (Some more) = more.value

-- its texts, by the names of their properties: SUMMARY is not among them
abbrev pub texts_in_more : MoreSeen → Texts (List ℕ)
texts_in_more more = record { title = []; location = more.location; description = more.description; url = more.url }

-- the same with these texts alone
abbrev pub kept_more : KeptTexts → MoreSeen → MoreSeen
kept_more keep more = record more {
  location = kept_text keep.location more.location;
  description = kept_text keep.description more.description;
  url = kept_text keep.url more.url;
}
