-- The events that start once, and the occurrence of an event at its DTSTART (RFC 5545, sections 3.6.1 and 3.8.4.4).
use Rattle.std.specs.Prelude.{◌==◌, ◌&&◌, ◌||◌, ℤ, int_lt, Bool, length, Option, Some, None, is_none, is_some, if◌then◌else◌}
use Rattle.std.specs.Option.{unwrap_or}
use Rattle.ics_event.specs.declared.event.Event.{Event}
use Rattle.ics_values.specs.declared.time.Rdate.TheVariants.{At}
use Rattle.ics_starts.specs.declared.single.Single.{Single}
use Rattle.ics_listing.specs.declared.window.Window.{Window}
use Rattle.ics_listing.specs.FileClocks.{Clocks}
use Rattle.ics_starts.specs.Clocks.{instant}
use Rattle.ics_listing.specs.Entry.{Entry}
use Rattle.ics_starts.specs.Finish.{finish}
use Rattle.ics_starts.specs.FileZones.{clocks_in}

-- an override starts at its own DTSTART alone, whatever its RRULE, RDATE and EXDATE say, and so does a master that has none of these
abbrev pub is_single : Event → Bool
is_single event =
    is_some event.recurrence || ((is_none event.rule && length event.rdates == 0) && length event.exdates == 0)

-- The occurrence of an event at its DTSTART. It is identified by the instance that it overrides, or else by its start.
abbrev pub entry_first : Clocks → Event → Option ℤ → Entry
entry_first clocks event recurrence = record {
  start = instant clocks event.start;
  finish = finish clocks event (At event.start);
  recurrence = unwrap_or recurrence (instant clocks event.start);
  event = event;
}

-- such an occurrence, if it begins before the window's end
abbrev pub begun_first : Clocks → Window → Event → Option ℤ → Option Entry
begun_first clocks w event recurrence =
    if int_lt (instant clocks event.start) w.to then Some (entry_first clocks event recurrence) else None

-- the occurrence that is held without its finish
abbrev pub single_entry : Single → Entry
single_entry s = record {
  start = s.start;
  finish = finish (clocks_in s.zones) s.event.now (At s.event.now.start);
  recurrence = s.recurrence;
  event = s.event.now;
}
