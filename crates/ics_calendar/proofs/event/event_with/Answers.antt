use Rattle.std.proofs.Common.{rules, subst}
use Rattle.ics_event.specs.Event.{IsEvent}
use Rattle.ics_components.specs.declared.parsed_file.CalendarEvent.{CalendarEvent}
use Rattle.ics_calendar.specs.ZoneTables.{known_by}
use Rattle.ics_calendar.proofs.EventSound.{event-sound}
use Rattle.ics_calendar.proofs.event.event_with.Goals as goal

pub invariant_of-result : goal.invariant_of-result
invariant_of-result c =
    let ended : CalendarEvent = record { calendar = c.args.calendar; fields = c.args.fields } in
    subst IsEvent (search rules) (event-sound (known_by c.args.table.now) ended c.requires).0
