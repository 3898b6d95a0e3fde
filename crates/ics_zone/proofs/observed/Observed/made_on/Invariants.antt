use Rattle.ics_zone.specs.ZoneOffsets.{zone_offset}
use Rattle.ics_zone.specs.Inner.ZoneOnsets.{AreSteady}
use Rattle.ics_zone.proofs.observed.Observed.made_on.Given as goal

abbrev pub invariant-loop-k : goal.invariant-loop-k
invariant-loop-k l = AreSteady (zone_offset l.fn.self.said.items) l.spans.items
