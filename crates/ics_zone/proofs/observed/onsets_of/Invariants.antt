use Rattle.std.proofs.Common.{take}
use Rattle.std.specs.List.{AllZip}
use Rattle.ics_zone.specs.Inner.OnsetSets.{AreOnsetsOf}
use Rattle.ics_zone.proofs.observed.onsets_of.Given as goal

abbrev pub invariant-loop-observance : goal.invariant-loop-observance
invariant-loop-observance l = AllZip AreOnsetsOf (take l.observance-index l.observances) l.all.items
