use Rattle.std.proofs.Common.{◌≡◌, ◌++◌, map}
use Rattle.std.specs.List.{All, flat_map}
use Rattle.ics_calendar.specs.Settled.{IsReady, event_in}
use Rattle.ics_calendar.specs.ZoneTables.{known_by}
use Rattle.ics_calendar.proofs.unresolved_file.events_of.Given as goal

abbrev pub invariant-loop-own : goal.invariant-loop-own
invariant-loop-own l = record {
  ready : All (IsReady (known_by l.table)) (flat_map (λ own. own.items) l.own-iterator.rest.items);
  events : l.events.items ++ map (event_in (known_by l.table).index) (flat_map (λ own. own.items) l.own-iterator.rest.items)
      ≡ map (event_in (known_by l.table).index) (flat_map (λ own. own.items) l.fn.ended.items);
}
