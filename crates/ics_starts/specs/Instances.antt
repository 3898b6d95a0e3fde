-- Which occurrences an event has by its own rule, RDATEs and EXDATEs (RFC 5545, sections 3.6.1, 3.8.4 and 3.8.5).
use Rattle.std.specs.Prelude.{◌≡◌, ℤ, false}
use Rattle.ics_event.specs.declared.event.Event.{Event}
use Rattle.ics_event.specs.Event.{Rdate}
use Rattle.ics_listing.specs.FileClocks.{Clocks}
use Rattle.ics_starts.specs.Clocks.{instant}
use Rattle.ics_listing.specs.Entry.{Entry}
use Rattle.ics_starts.specs.Exclusions.{is_excluded}
use Rattle.ics_starts.specs.Finish.{finish}
use Rattle.ics_listing.specs.StartTimes.{time_of, IsNotAfter}
use Rattle.ics_starts.specs.Starts.{GivesStart}
use Rattle.ics_listing.specs.declared.start.StartSource.{StartSource}

-- an event occurs from this instant to that one. If several sources give the start, the first gives the finish. No EXDATE removes the start
pub record IsInstance (clocks : Clocks) (event : Event) (start end : ℤ) : Type 0 where
  pub source : StartSource
  pub given : Rdate
  pub gives : GivesStart clocks event source given
  pub starts : start ≡ instant clocks (time_of given)
  pub earliest : (other : StartSource) (value : Rdate) → GivesStart clocks event other value → instant clocks (time_of value) ≡ start → IsNotAfter source other
  pub ends : end ≡ finish clocks event given
  pub stays : is_excluded clocks event start ≡ false

-- an occurrence of the event e, identified by its start
pub record IsOf (clocks : Clocks) (e : Event) (o : Entry) : Type 0 where
  pub event : o.event ≡ e
  pub recurrence : o.recurrence ≡ o.start
  pub lasts : IsInstance clocks e o.start o.finish
