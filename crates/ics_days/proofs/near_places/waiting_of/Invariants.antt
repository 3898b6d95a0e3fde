use Rattle.std.proofs.Common.{◌≡◌, ◌<◌, ℕ, length, slice_get, Some}
use Rattle.ics_listing.specs.Listing.{IsIn}
use Rattle.ics_days.specs.NearPlaces.{WaitBelow}
use Rattle.ics_days.specs.declared.span.Span.{Span}
use Rattle.ics_days.proofs.near_places.waiting_of.Given as goal

-- those before this one are there
abbrev pub invariant-loop-place : goal.invariant-loop-place
invariant-loop-place l = record {
  count : length l.waiting.items ≡ l.place;
  below : WaitBelow (length l.spans) l.waiting.items;
  each : (k : ℕ) (s : Span) → k < l.place → slice_get l.spans k ≡ Some s → IsIn (record { first = s.first; place = k }) l.waiting.items;
}
