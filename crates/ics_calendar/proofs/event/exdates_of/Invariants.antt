use Rattle.std.proofs.Common.{◌≡◌, ◌++◌, map}
use Rattle.ics_values.specs.Times.{map_time, start_of}
use Rattle.ics_calendar.specs.Events.{zone_at}
use Rattle.ics_calendar.specs.ZoneTables.{known_by}
use Rattle.ics_calendar.proofs.event.exdates_of.Given as goal

abbrev pub invariant-loop-exdate : goal.invariant-loop-exdate
invariant-loop-exdate l =
    l.made.items ++ map (λ exdate. map_time (zone_at (known_by l.table).index l.calendar) (start_of exdate)) l.exdate-iterator.rest.items
    ≡ map (λ exdate. map_time (zone_at (known_by l.table).index l.calendar) (start_of exdate)) l.fn.exdates
