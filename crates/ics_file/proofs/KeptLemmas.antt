-- Which texts an event has says nothing of its times.
use Rattle.std.proofs.Common.{List, get_or, map}
use Rattle.std.proofs.lemmas.List.Elements.{All-map}
use Rattle.ics_values.specs.KeptTexts.{KeptTexts}
use Rattle.ics_zone.specs.ZoneSaid.{ZoneSaid}
use Rattle.ics_file.specs.File.{AreEventsOf, IsEventOf}
use Rattle.ics_event.specs.Event.{EventSeen}
use Rattle.ics_event.specs.Kept.{kept_event}

event-kept : (keep : KeptTexts) (zones : List ZoneSaid) (event : EventSeen) → IsEventOf zones event → IsEventOf zones (kept_event keep event)
event-kept keep zones event is = record {
  below = record {
    start = is.below.start;
    length = is.below.length;
    rdates = is.below.rdates;
    exdates = is.below.exdates;
    recurrence = is.below.recurrence;
  };
  short = is.short;
}

pub events-kept : (keep : KeptTexts) (zones : List ZoneSaid) (events : List EventSeen) → AreEventsOf zones events →
    AreEventsOf zones (map (kept_event keep) events)
events-kept keep zones events are =
    All-map (IsEventOf zones) (kept_event keep) events (λ i d l. event-kept keep zones (get_or events i d) (are i d l))
