use Rattle.std.proofs.Common.{List}
use Rattle.ics_zone.specs.Observances.{ObservanceSaid}
use Rattle.ics_zone.specs.Inner.ZoneOnsets.{AreOnsetsOfAll, IsLatestOf}
use Rattle.ics_zone.proofs.latest.latest_of_each.Given as goal

abbrev pub invariant-loop-place : goal.invariant-loop-place
invariant-loop-place l = (zone : List ObservanceSaid) → AreOnsetsOfAll zone l.onsets → IsLatestOf zone l.fn.moment l.place l.latest
