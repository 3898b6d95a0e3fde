use Rattle.std.proofs.Common.{◌≡◌}
use Rattle.ics_calendar.specs.ZoneTables.{known_by}
use Rattle.ics_calendar.proofs.zone_table.ZoneTable.note_each.Given as goal

abbrev pub invariant-loop-event : goal.invariant-loop-event
invariant-loop-event l = known_by l.self ≡ known_by l.fn.self
