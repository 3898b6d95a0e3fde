use Rattle.std.proofs.Common.{List, All, ◌≡◌, length}
use Rattle.ics_zone.specs.Observances.{ObservanceSaid}
use Rattle.ics_zone.specs.Inner.OnsetSets.{IsSound}
use Rattle.ics_zone.specs.Inner.ZoneOnsets.{AreOnsetsOfAll}
use Rattle.ics_zone.proofs.latest.find_each.Given as goal

abbrev pub invariant-loop-k : goal.invariant-loop-k
invariant-loop-k l = record {
  long : length l.onsets ≡ length l.fn.onsets;
  sound : All IsSound l.onsets;
  same : (zone : List ObservanceSaid) → AreOnsetsOfAll zone l.fn.onsets → AreOnsetsOfAll zone l.onsets;
}
