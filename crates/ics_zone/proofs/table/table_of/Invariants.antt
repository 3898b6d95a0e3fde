use Rattle.std.proofs.Common.{List}
use Rattle.ics_zone.specs.Observances.{ObservanceSaid}
use Rattle.ics_zone.specs.Inner.ZoneOnsets.{AreOnsetsOfAll}
use Rattle.ics_zone.specs.Inner.Tables.{AreNumbered}
use Rattle.ics_zone.proofs.table.table_of.Given as goal

abbrev pub invariant-loop-place : goal.invariant-loop-place
invariant-loop-place l = (zone : List ObservanceSaid) → AreOnsetsOfAll zone l.onsets → AreNumbered zone l.place l.fn.from l.fn.last l.list.items
