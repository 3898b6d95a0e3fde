use Rattle.std.proofs.Common.{List}
use Rattle.ics_zone.specs.Observances.{ObservanceSaid}
use Rattle.ics_zone.specs.Inner.ZoneOnsets.{AreOnsetsOfAll, IsFirst}
use Rattle.ics_zone.proofs.latest.first_offset.Given as goal

abbrev pub invariant-loop-place : goal.invariant-loop-place
invariant-loop-place l = (zone : List ObservanceSaid) → AreOnsetsOfAll zone l.onsets → IsFirst zone l.place l.first l.offset
