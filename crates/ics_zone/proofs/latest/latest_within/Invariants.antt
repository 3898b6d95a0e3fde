use Rattle.std.proofs.Common.{List}
use Rattle.ics_zone.specs.Observances.{ObservanceSaid}
use Rattle.ics_zone.specs.Inner.ZoneOnsets.{AreOnsetsOfAll, IsLatestWithin}
use Rattle.ics_zone.proofs.latest.latest_within.Given as goal

abbrev pub invariant-loop-place : goal.invariant-loop-place
invariant-loop-place l = (zone : List ObservanceSaid) → AreOnsetsOfAll zone l.onsets → IsLatestWithin zone l.fn.after l.fn.moment l.place l.latest
