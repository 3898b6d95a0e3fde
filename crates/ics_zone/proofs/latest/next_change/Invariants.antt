use Rattle.std.proofs.Common.{List, ◌<ℤ◌, ◌≤ℤ◌}
use Rattle.ics_zone.specs.Observances.{ObservanceSaid}
use Rattle.ics_zone.specs.Inner.ZoneOnsets.{AreOnsetsOfAll, StayOffset}
use Rattle.ics_zone.proofs.latest.next_change.Given as goal

abbrev pub invariant-loop : goal.invariant-loop
invariant-loop l = record {
  later : l.fn.after <ℤ l.next;
  in_bound : l.next ≤ℤ l.fn.limit;
  stay : (zone : List ObservanceSaid) → AreOnsetsOfAll zone l.onsets → StayOffset zone l.fn.offset l.fn.after l.next;
}
