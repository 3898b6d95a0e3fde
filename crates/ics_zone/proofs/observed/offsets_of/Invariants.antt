use Rattle.std.proofs.Common.{◌≡◌, take}
use Rattle.ics_zone.proofs.ReadLemmas.{both_offsets}
use Rattle.ics_zone.proofs.observed.offsets_of.Given as goal

abbrev pub invariant-loop-observance : goal.invariant-loop-observance
invariant-loop-observance l = l.offsets.items ≡ both_offsets (take l.observance-index l.observances)
