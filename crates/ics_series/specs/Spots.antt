-- The places of the events of a folder.
use Rattle.std.specs.Prelude.{List, Option, slice_get}
use Rattle.std.specs.Option.{option_and_then}
use Rattle.ics_file.specs.File.{FileSaid}
use Rattle.ics_event.specs.declared.event.Event.{Event}
use Rattle.ics_series.specs.declared.spot.Spot.{Spot}

-- the event at this place
abbrev pub event_at : List FileSaid → Spot → Option Event
event_at files spot = option_and_then (λ f. slice_get f.events spot.place) (slice_get files spot.file)
