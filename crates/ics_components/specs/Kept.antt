-- WHAT IS GATHERED of a file where some texts of its events are not kept: each text is what its lines give or none, and nothing else is changed.
use Rattle.std.specs.Prelude.{◌≡◌, ℕ, Bool, List, map, Option, None, Result, Ok, Err, if◌then◌else◌}
use Rattle.ics_values.specs.KeptTexts.{KeptTexts}
use Rattle.ics_values.specs.TextNames.{text_at, texts_of}
use Rattle.ics_components.specs.declared.event_fields.EventFields.{EventFields}
use Rattle.ics_components.specs.declared.fault.Fault.{Fault}
use Rattle.ics_components.specs.declared.fault.FileFault.{FileFault}
use Rattle.ics_components.specs.declared.fault.FileFault.TheVariants.{Memory, At}
use Rattle.ics_components.specs.declared.parsed_file.CalendarEvent.{CalendarEvent}
use Rattle.ics_components.specs.ParsedFileSeen.{ParsedFileSeen}

abbrev pub if_kept : Bool → Option (List ℕ) → Option (List ℕ)
if_kept kept text = if kept then text else None

abbrev pub kept_fields : KeptTexts → EventFields → EventFields
kept_fields keep had = record had { texts = texts_of (λ name. if_kept (text_at name keep) (text_at name had.texts)) }

abbrev pub kept_ended : KeptTexts → CalendarEvent → CalendarEvent
kept_ended keep event = record event { fields = kept_fields keep event.fields }

abbrev pub kept_parsed : KeptTexts → ParsedFileSeen → ParsedFileSeen
kept_parsed keep had = record had { events = map (kept_ended keep) had.events }

-- The answer is what is kept of what is gathered, or the first fault, or that memory is refused.
abbrev pub SaysKept : KeptTexts → Result ParsedFileSeen FileFault → Result ParsedFileSeen Fault → Type 0
SaysKept keep (Ok parsed) said = (whole : ParsedFileSeen) × (said ≡ Ok whole) × (parsed ≡ kept_parsed keep whole)
SaysKept keep (Err Memory) said = Unit {0}
SaysKept keep (Err (At line kind)) said = said ≡ Err (record { line = line; kind = kind })
