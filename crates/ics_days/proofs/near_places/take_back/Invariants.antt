use Rattle.std.proofs.Common.{length}
use Rattle.ics_days.specs.NearPlaces.{AreTaken}
use Rattle.ics_days.proofs.near_places.take_back.Given as goal

-- those before this one were taken
abbrev pub invariant-loop-one : goal.invariant-loop-one
invariant-loop-one l = AreTaken l.initial.returned.keys l.returned.keys l.initial.near.items l.near.items

abbrev pub decreases-loop-one : goal.decreases-loop-one
decreases-loop-one l = length l.returned.keys
