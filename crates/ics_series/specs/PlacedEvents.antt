-- The places of the events of a folder, and the clocks by which their times are read.
use Rattle.std.specs.Prelude.{◌≡◌, ℕ, List, [], Option, Some, None, slice_get}
use Rattle.std.specs.Ordering.{nat_cmp, on, then_cmp}
use Rattle.std.specs.declared.cmp.Ordering.{Ordering}
use Rattle.ics_file.specs.File.{FileSaid}
use Rattle.ics_event.specs.declared.event.Event.{Event}
use Rattle.ics_zone.specs.ZoneSaid.{ZoneSaid}
use Rattle.ics_listing.specs.FileClocks.{Clock, Clocks}
use Rattle.ics_starts.specs.Clocks.{clocks_of}

-- an event, the number of its file and its place in the file
pub record Placed : Type 0 where
  pub file : ℕ
  pub place : ℕ
  pub event : Event

-- the event is at its place
pub record IsPlaced (files : List FileSaid) (p : Placed) : Type 0 where
  pub within : (f : FileSaid) × (slice_get files p.file ≡ Some f) × (slice_get f.events p.place ≡ Some p.event)

-- by SEQUENCE, then file, then place
abbrev pub placed_cmp : Placed → Placed → Ordering
placed_cmp = then_cmp (on (λ p. p.event.sequence) nat_cmp) (then_cmp (on (λ p. p.file) nat_cmp) (on (λ p. p.place) nat_cmp))

-- the zones of the file with this number
abbrev pub zones_of : Option FileSaid → List ZoneSaid
zones_of (Some f) = f.zones
zones_of None = []

abbrev pub zones_in : List FileSaid → ℕ → List ZoneSaid
zones_in files file = zones_of (slice_get files file)

-- the clocks by which the times of a file are read
abbrev pub clocks_at : List FileSaid → Clock → ℕ → Clocks
clocks_at files display file = clocks_of display (zones_in files file)
