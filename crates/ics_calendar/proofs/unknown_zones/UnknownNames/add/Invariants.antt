use Rattle.std.proofs.Common.{ℕ, List, ◌++◌, take}
use Rattle.ics_calendar.specs.Settled.{all_unknown}
use Rattle.ics_calendar.specs.Inner.UnknownNames.{AreNames}
use Rattle.ics_calendar.specs.ZoneTables.{known_by}
use Rattle.ics_calendar.proofs.unknown_zones.UnknownNames.add.Given as goal

-- the names so far
abbrev pub invariant-loop-deferred : goal.invariant-loop-deferred
invariant-loop-deferred l =
    (names : List (List ℕ)) → AreNames names l.fn.self → AreNames (names ++ all_unknown (known_by l.table).index (take l.deferred-index l.checks)) l.self
