use Rattle.std.proofs.Common.{List, ◌<ℤ◌, ◌≤ℤ◌}
use Rattle.ics_zone.specs.Observances.{ObservanceSaid}
use Rattle.ics_zone.specs.Inner.ZoneOnsets.{AreOnsetsOfAll}
use Rattle.ics_zone.proofs.ZoneSteps.{KeepOffsetTo}
use Rattle.ics_zone.proofs.latest.next_other.Given as goal

abbrev pub invariant-loop-one : goal.invariant-loop-one
invariant-loop-one l = record {
  later : l.fn.after <ℤ l.next;
  in_bound : l.next ≤ℤ l.fn.limit;
  none : (zone : List ObservanceSaid) → AreOnsetsOfAll zone l.onsets → KeepOffsetTo zone l.one-index l.fn.offset l.fn.after l.next;
}
