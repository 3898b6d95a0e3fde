use Rattle.std.proofs.Common.{◌≡◌, List, length, pos, ◌+ℤ◌, ◌≤ℤ◌}
use Rattle.ics_zone.specs.Observances.{ObservanceSaid}
use Rattle.ics_zone.specs.Inner.ZoneOnsets.{AreOnsetsOfAll}
use Rattle.ics_zone.proofs.MarkLemmas.{AreOverrides, IsClearFrom}
use Rattle.ics_zone.proofs.latest.clear_after.Given as goal

abbrev pub invariant-loop-place : goal.invariant-loop-place
invariant-loop-place l = record {
  length : length l.over ≡ 60;
  some : pos 0 ≤ℤ l.clear;
  most : l.clear ≤ℤ pos 3_600;
  clears : (zone : List ObservanceSaid) → AreOnsetsOfAll zone l.onsets → AreOverrides zone l.place l.fn.seconds (l.fn.after +ℤ pos 1) l.over
      × IsClearFrom zone l.place l.fn.seconds l.fn.after (l.fn.after +ℤ pos 1 +ℤ l.clear);
}
