use Rattle.std.proofs.Common.{◌≡◌, ◌++◌, map}
use Rattle.ics_values.specs.Times.{map_rdate}
use Rattle.ics_calendar.specs.Events.{zone_at}
use Rattle.ics_calendar.specs.ZoneTables.{known_by}
use Rattle.ics_calendar.proofs.event.rdates_of.Given as goal

abbrev pub invariant-loop-rdate : goal.invariant-loop-rdate
invariant-loop-rdate l =
    l.made.items ++ map (map_rdate (zone_at (known_by l.table).index l.calendar)) l.rdate-iterator.rest.items
    ≡ map (map_rdate (zone_at (known_by l.table).index l.calendar)) l.fn.rdates
