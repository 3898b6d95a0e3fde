use Rattle.std.proofs.Common.{◌≡◌, take}
use Rattle.ics_components.proofs.observances.copied_observances.Given as goal

abbrev pub invariant-loop-observance : goal.invariant-loop-observance
invariant-loop-observance l = l.values.items ≡ take l.observance-index l.observance-items
