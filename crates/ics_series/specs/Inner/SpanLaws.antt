-- What a listing under each day knows of its versions and their spans has at most one proof.
use Rattle.std.specs.Prelude.{◌≡◌, ℤ, List, map}
use Rattle.std.specs.Coded.{Π_prop, codes}
use Rattle.std.proofs.Props.{props}
use Rattle.ics_file.specs.File.{FileSaid}
use Rattle.ics_event.specs.declared.event.Event.{Event}
use Rattle.ics_days.specs.declared.span.Span.{Span}
use Rattle.ics_series.specs.declared.version.Version.{Version}
use Rattle.ics_listing.specs.declared.window.Window.{Window}
use Rattle.ics_series.specs.Chosen.{IsChosen}
use Rattle.ics_listing.specs.FileClocks.{Clock, Clocks}
use Rattle.ics_listing.specs.Entry.{Entry}
use Rattle.ics_listing.specs.Listing.{IsListing}
use Rattle.ics_series.specs.Inner.Spans.{floor_of, AreSpansAfter, IsKeptFrom, IsSpanOf, NoneMeets}
use Rattle.ics_series.specs.PlacedEvents.{Placed, clocks_at}
use Rattle.ics_series.specs.Versions.{by_subject, label_of, seen, Label}
use Rattle.ics_days.specs.NearDays.{HasOffsets}
use Rattle.ics_zone.specs.declared.bounds.Bounds.{Bounds}

-- the versions are those of the events that count, in the order of their subjects
abbrev pub AreThoseChosen : List FileSaid → Clock → List Version → Type 0
AreThoseChosen files display versions =
    (chosen : List Placed) → IsListing (by_subject files display) (IsChosen files display) chosen → map seen versions ≡ map (label_of files display) chosen

-- labels are told apart
pub labels-set : (a b : List Label) → IsProp (a ≡ b)
labels-set a b = hlevel (props, codes)

pub those-chosen-prop : (files : List FileSaid) (display : Clock) (versions : List Version) → IsProp (AreThoseChosen files display versions)
those-chosen-prop files display versions = Π_prop λ chosen. Π_prop λ l. labels-set _ _

-- nor has more what it knows of the clock
pub offsets-prop : (clock : Clock) (w : Window) (b : Bounds) → IsProp (HasOffsets clock w b)
offsets-prop clock w b = hlevel props

none-meets-prop : (clocks : Clocks) (event : Event) (w : Window) (IsAsked : Entry → Type 0) → IsProp (NoneMeets clocks event w IsAsked)
none-meets-prop clocks event w IsAsked = hlevel props

span-prop : (clocks : Clocks) (event : Event) (w : Window) (IsAsked : Entry → Type 0) (s : Span) → IsProp (IsSpanOf clocks event w IsAsked s)
span-prop clocks event w IsAsked s = hlevel (props, none-meets-prop)

pub spans-after-prop : (files : List FileSaid) (display : Clock) (b : Bounds) (w : Window) (day : ℤ) (labels : List Label) (spans : List Span)
    → IsProp (AreSpansAfter files display b w day labels spans)
spans-after-prop files display b w day labels spans =
    Π_prop λ x. Π_prop λ n. Π_prop λ later. Π_prop λ near. Π_prop λ k. Π_prop λ s. Π_prop λ l. Π_prop λ event. Π_prop λ at. Π_prop λ there. Π_prop λ stands.
    span-prop (clocks_at files display l.spot.file) event n (IsKeptFrom files display (floor_of w)) s
