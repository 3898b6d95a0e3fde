use Rattle.std.proofs.Common.{◌≡◌}
use Rattle.ics_calendar.specs.DeferredChecks.{with_files}
use Rattle.ics_calendar.specs.ZoneTables.{known_by, given_by}
use Rattle.ics_calendar.proofs.zone_table.ZoneTable.with_files.Given as goal

abbrev pub invariant-loop-name : goal.invariant-loop-name
invariant-loop-name l =
    with_files (known_by l.table) (given_by l.files) l.name-iterator.rest.items
    ≡ with_files (known_by l.fn.self) (given_by l.files) l.fn.names.items
