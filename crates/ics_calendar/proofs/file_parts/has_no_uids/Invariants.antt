use Rattle.std.proofs.Common.{◌≡◌, drop}
use Rattle.std.specs.List.{list_all}
use Rattle.ics_components.specs.EventLines.{is_none_of}
use Rattle.ics_calendar.proofs.file_parts.has_no_uids.Given as goal

abbrev pub invariant-loop-event : goal.invariant-loop-event
invariant-loop-event l = list_all (λ event. is_none_of event.uids) (drop l.event-index l.events) ≡ list_all (λ event. is_none_of event.uids) l.events
