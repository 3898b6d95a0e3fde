use Rattle.std.proofs.Common.{◌≡◌, length}
use Rattle.ics_calendar.specs.ZoneTables.{known_by}
use Rattle.ics_calendar.proofs.zone_table.ZoneTable.learn_each.Given as goal

abbrev pub invariant-loop-k : goal.invariant-loop-k
invariant-loop-k l = record { same : known_by l.self ≡ known_by l.fn.self; long : length l.self.zones.items ≡ length l.fn.self.zones.items }
