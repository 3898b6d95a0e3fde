use Rattle.std.proofs.Common.{◌≡◌}
use Rattle.ics_calendar.specs.ZoneTables.{known_by}
use Rattle.ics_calendar.proofs.zone_table.ZoneTable.note_dates.Given as goal

abbrev pub invariant-loop-date : goal.invariant-loop-date
invariant-loop-date l = known_by l.self ≡ known_by l.fn.self
