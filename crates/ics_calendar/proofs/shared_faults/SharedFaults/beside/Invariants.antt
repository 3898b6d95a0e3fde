use Rattle.std.proofs.Common.{◌≡◌, take}
use Rattle.ics_calendar.specs.Inner.SharedFaults.{shared_beside}
use Rattle.ics_calendar.proofs.shared_faults.SharedFaults.beside.Given as goal

abbrev pub invariant-loop-name : goal.invariant-loop-name
invariant-loop-name l = l.first ≡ shared_beside l.self l.calendar (take l.name-index l.names)
