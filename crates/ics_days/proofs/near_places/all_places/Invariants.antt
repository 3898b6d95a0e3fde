use Rattle.std.proofs.Common.{◌<◌, ℕ}
use Rattle.std.specs.Ordering.{nat_cmp}
use Rattle.ics_listing.specs.Listing.{IsIn}
use Rattle.ics_listing.specs.Rising.{Rises}
use Rattle.ics_days.specs.NearPlaces.{AreBelow}
use Rattle.ics_days.proofs.near_places.all_places.Given as goal

-- those before this one are there
abbrev pub invariant-loop-place : goal.invariant-loop-place
invariant-loop-place l = record {
  rises : Rises nat_cmp l.places.items;
  below : AreBelow l.place l.places.items;
  all : (k : ℕ) → k < l.place → IsIn k l.places.items;
}
