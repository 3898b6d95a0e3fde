-- The occurrence that a start gives.
use Rattle.ics_event.specs.declared.event.Event.{Event}
use Rattle.ics_event.specs.Event.{Rdate}
use Rattle.ics_listing.specs.FileClocks.{Clocks}
use Rattle.ics_starts.specs.Clocks.{instant}
use Rattle.ics_listing.specs.Entry.{Entry}
use Rattle.ics_starts.specs.Finish.{finish}
use Rattle.ics_listing.specs.StartTimes.{time_of}

-- the occurrence of an event whose start this gives
abbrev pub entry_from : Clocks → Event → Rdate → Entry
entry_from clocks event given = record {
  start = instant clocks (time_of given);
  finish = finish clocks event given;
  recurrence = instant clocks (time_of given);
  event = event;
}
