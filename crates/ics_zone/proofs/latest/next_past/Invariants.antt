use Rattle.std.proofs.Common.{List, pos, ◌+ℤ◌, ◌<ℤ◌, ◌≤ℤ◌}
use Rattle.ics_zone.specs.Observances.{ObservanceSaid}
use Rattle.ics_zone.specs.Inner.ZoneOnsets.{AreOnsetsOfAll}
use Rattle.ics_zone.proofs.ZoneSteps.{IsNextPastTo}
use Rattle.ics_zone.proofs.latest.next_past.Given as goal

abbrev pub invariant-loop-place : goal.invariant-loop-place
invariant-loop-place l = record {
  later : l.fn.after <ℤ l.next;
  in_bound : l.next ≤ℤ (l.fn.seconds +ℤ pos 86_401);
  none : (zone : List ObservanceSaid) → AreOnsetsOfAll zone l.onsets → IsNextPastTo zone l.place l.fn.seconds l.fn.after l.next;
}
