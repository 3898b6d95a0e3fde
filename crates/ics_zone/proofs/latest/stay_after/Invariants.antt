use Rattle.std.proofs.Common.{◌≡◌, List, length, pos, ◌+ℤ◌, ◌≤ℤ◌}
use Rattle.ics_zone.specs.Observances.{ObservanceSaid}
use Rattle.ics_zone.specs.Inner.ZoneOnsets.{AreOnsetsOfAll}
use Rattle.ics_zone.proofs.MarkLemmas.{AreBegun, StayFrom}
use Rattle.ics_zone.proofs.latest.stay_after.Given as goal

abbrev pub invariant-loop-place : goal.invariant-loop-place
invariant-loop-place l = record {
  length : length l.over ≡ 60;
  some : pos 0 ≤ℤ l.stay;
  most : l.stay ≤ℤ pos 3_600;
  stays : (zone : List ObservanceSaid) → AreOnsetsOfAll zone l.onsets → AreBegun zone l.place l.fn.offset (l.fn.after +ℤ pos 1) l.over
      × StayFrom zone l.place l.fn.offset l.fn.after (l.fn.after +ℤ pos 1 +ℤ l.stay);
}
