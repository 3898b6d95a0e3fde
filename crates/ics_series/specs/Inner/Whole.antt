-- What is known of the files of a folder once the versions of their events are listed.
use Rattle.std.specs.Prelude.{◌≡◌, ℕ, List, Some, slice_get}
use Rattle.hex.specs.Hex.{IsBytes}
use Rattle.ics_file.specs.File.{FileSaid}
use Rattle.ics_event.specs.Event.{IsEvent}
use Rattle.ics_event.specs.declared.event.Event.{Event}
use Rattle.ics_series.specs.PlacedEvents.{Placed, IsPlaced}

-- an event whose UID is made of bytes
pub record IsReadEvent (event : Event) : Type 0 where
  pub is_event : IsEvent event
  pub uid : IsBytes event.uid

-- the events of a file, and those of a folder, are such
abbrev pub AreReadIn : List Event → Type 0
AreReadIn events = (place : ℕ) (event : Event) → slice_get events place ≡ Some event → IsReadEvent event

abbrev pub AreRead : List FileSaid → Type 0
AreRead files = (p : Placed) → IsPlaced files p → IsReadEvent p.event
