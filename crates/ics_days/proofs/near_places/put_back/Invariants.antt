use Rattle.std.proofs.Common.{◌≡◌, fold, take}
use Rattle.ics_days.specs.NearPlaces.{put_at}
use Rattle.ics_days.proofs.near_places.put_back.Given as goal

-- those before this one were put back
abbrev pub invariant-loop-place : goal.invariant-loop-place
invariant-loop-place l = l.returned.keys ≡ fold (put_at l.spans l.far) l.initial.returned.keys (take l.place-index l.near)
