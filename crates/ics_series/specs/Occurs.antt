-- Which occurrences the files of a folder have (RFC 5545, sections 3.6.1, 3.8.4 and 3.8.5).
use Rattle.std.specs.Prelude.{◌≡◌, ◌⊎◌, List}
use Rattle.ics_file.specs.File.{FileSaid}
use Rattle.ics_event.specs.declared.event.Event.{Event}
use Rattle.ics_values.specs.declared.time.Rdate.TheVariants.{At}
use Rattle.ics_series.specs.Chosen.{IsMaster, IsOverride, IsOverridden}
use Rattle.ics_listing.specs.FileClocks.{Clock, Clocks}
use Rattle.ics_starts.specs.Clocks.{instant}
use Rattle.ics_listing.specs.Entry.{Entry}
use Rattle.ics_starts.specs.Finish.{finish}
use Rattle.ics_series.specs.PlacedEvents.{Placed, clocks_at}
use Rattle.ics_starts.specs.Instances.{IsOf}

-- the occurrence of an override: at its own DTSTART, whatever its RRULE, RDATE and EXDATE say
pub record IsMoved (clocks : Clocks) (e : Event) (o : Entry) : Type 0 where
  pub event : o.event ≡ e
  pub starts : o.start ≡ instant clocks e.start
  pub ends : o.finish ≡ finish clocks e (At e.start)

-- an occurrence of a master that no override replaces
pub record IsOfMaster (files : List FileSaid) (display : Clock) (o : Entry) : Type 0 where
  pub master : Placed
  pub is : IsMaster files display master
  pub of : IsOf (clocks_at files display master.file) master.event o
  pub kept : IsOverridden files display o.event.uid o.recurrence → ⊥

-- the occurrence of an override, identified by its RECURRENCE-ID
pub record IsOfOverride (files : List FileSaid) (display : Clock) (o : Entry) : Type 0 where
  pub override : Placed
  pub is : IsOverride files display override o.recurrence
  pub of : IsMoved (clocks_at files display override.file) override.event o

-- an occurrence of the folder
abbrev pub Occurs : List FileSaid → Clock → Entry → Type 0
Occurs files display o = IsOfMaster files display o ⊎ IsOfOverride files display o
