use Rattle.std.proofs.Common.{◌≡◌, drop}
use Rattle.ics_days.specs.NearPlaces.{first_of}
use Rattle.ics_days.proofs.near_places.first_near.Given as goal

-- with the places from this one on it is what all give
abbrev pub invariant-loop-place : goal.invariant-loop-place
invariant-loop-place l = first_of l.from l.first l.spans (drop l.place-index l.near) ≡ first_of l.from l.start l.spans l.near
