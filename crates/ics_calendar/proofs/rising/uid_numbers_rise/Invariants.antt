use Rattle.std.proofs.Common.{◌≡◌, drop}
use Rattle.ics_calendar.specs.Inner.PartsRead.{rise_from}
use Rattle.ics_calendar.proofs.rising.uid_numbers_rise.Given as goal

abbrev pub invariant-loop-event : goal.invariant-loop-event
invariant-loop-event l = rise_from l.last (drop l.event-index l.events) ≡ rise_from 0 l.events
