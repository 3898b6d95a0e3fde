use Rattle.std.proofs.Common.{◌≡◌, ◌++◌, map}
use Rattle.ics_calendar.specs.Settled.{event_in}
use Rattle.ics_calendar.specs.ZoneTables.{known_by}
use Rattle.ics_calendar.proofs.unresolved_file.add_events.Given as goal

abbrev pub invariant-loop-event : goal.invariant-loop-event
invariant-loop-event l =
    l.events.items ++ map (event_in (known_by l.table).index) l.event-iterator.rest.items
    ≡ l.fn.events.items ++ map (event_in (known_by l.table).index) l.fn.ended.items
