use Rattle.std.proofs.Common.{◌≡◌}
use Rattle.ics_calendar.specs.ZoneTables.{known_by}
use Rattle.ics_calendar.proofs.zone_table.ZoneTable.note_all.Given as goal

abbrev pub invariant-loop-events : goal.invariant-loop-events
invariant-loop-events l = known_by l.self ≡ known_by l.fn.self
