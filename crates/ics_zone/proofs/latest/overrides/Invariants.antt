use Rattle.std.proofs.Common.{List}
use Rattle.ics_zone.specs.Observances.{ObservanceSaid}
use Rattle.ics_zone.specs.Inner.ZoneOnsets.{AreOnsetsOfAll}
use Rattle.ics_zone.proofs.ZoneSteps.{AreLessTo}
use Rattle.ics_zone.proofs.latest.overrides.Given as goal

abbrev pub invariant-loop-other : goal.invariant-loop-other
invariant-loop-other l =
    (zone : List ObservanceSaid) → AreOnsetsOfAll zone l.onsets
    → AreLessTo zone l.other l.fn.offset l.fn.moment l.fn.onset.at l.fn.onset.place
