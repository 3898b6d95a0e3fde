-- What the places near a day tell of the spans of a folder's versions.
use Rattle.std.specs.Prelude.{◌≡◌, ◌<ℤ◌, ◌++◌, ℕ, ℤ, Bool, false, drop, length, List}
use Rattle.std.specs.Coded.{Π_prop, codes}
use Rattle.std.proofs.Props.{props}
use Rattle.ics_listing.specs.FileClocks.{Clock}
use Rattle.ics_listing.specs.declared.window.Window.{Window}
use Rattle.ics_days.specs.NearPlaces.{AreAwaited}
use Rattle.ics_days.specs.Spans.{can_meet}
use Rattle.ics_days.specs.NearDays.{IsNearDay}
use Rattle.ics_days.specs.declared.near_places.NearPlaces.{NearPlaces}
use Rattle.ics_days.specs.declared.span.Span.{Span}
use Rattle.ics_zone.specs.declared.bounds.Bounds.{Bounds}

-- how many places there are
abbrev pub count_of : NearPlaces → ℕ
count_of places = length places.waiting.items

-- the places of all spans that can meet a window are near, or wait
abbrev pub HasPlaces : NearPlaces → List Span → Window → Type 0
HasPlaces places spans w = AreAwaited places.near.items (drop places.taken places.waiting.items ++ places.returned.keys) spans w

-- they are so for what a window holds near each day after one
abbrev pub HasPlacesAfter : Window → Bounds → ℤ → NearPlaces → List Span → Type 0
HasPlacesAfter w b day places spans = (clock : Clock) (x : ℤ) (n : Window) → day <ℤ x → IsNearDay clock w b x n → HasPlaces places spans n

bools-set : (b : Bool) → IsProp (b ≡ false)
bools-set b = hlevel (props, codes)

pub places-prop : (w : Window) (b : Bounds) (day : ℤ) (places : NearPlaces) (spans : List Span) → IsProp (HasPlacesAfter w b day places spans)
places-prop w b day places spans =
    Π_prop λ clock. Π_prop λ x. Π_prop λ n. Π_prop λ later. Π_prop λ near. Π_prop λ k. Π_prop λ s. Π_prop λ at. Π_prop λ away. Π_prop λ none.
    bools-set (can_meet s n)
