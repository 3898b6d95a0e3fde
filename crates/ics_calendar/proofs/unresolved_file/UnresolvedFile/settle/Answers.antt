use Rattle.std.specs.List.{flat_map}
use Rattle.ics_calendar.specs.UnresolvedFiles.{IsSoundUnresolved}
use Rattle.ics_calendar.specs.ZoneTables.{known_by, given_by}
use Rattle.ics_calendar.proofs.Settling.{unresolved-with, ready, events-here}
use Rattle.ics_calendar.proofs.unresolved_file.UnresolvedFile.settle.Goals as goal
use Rattle.ics_calendar.proofs.unresolved_file.UnresolvedFile.settle.Goals.{In_default}

-- with its zone files the unresolved file is sound still
sound : (c : In_default) → IsSoundUnresolved (known_by c.in_ok-table.table) (flat_map (λ own. own.items) c.self.inside.events.items) c.self.inside.checks.items
sound c = rw c.in_ok-table.ensures (unresolved-with (given_by c.args.files.now) c.self.inside.wanted.items c.self.invariant.0)

pub events_of-requires : goal.events_of-requires
events_of-requires c =
    ready _ _ _ (sound (goal.at.events_of-requires c).In_default) (cc (c.first_judged.ensures, c.in_default.is))

pub invariant_of-result : goal.invariant_of-result
invariant_of-result c =
    rw (c.into_zones.ensures, c.in_ok-events.ensures)
    (events-here _ _ _ (sound (goal.at.invariant_of-result c).In_default) (cc (c.first_judged.ensures, c.in_default.is)))
