-- From when to when the events of a folder are, so that they need not be read for a window that they cannot meet.
use Rattle.std.specs.Prelude.{◌≡◌, ◌⊎◌, ◌<ℤ◌, ◌≤ℤ◌, ◌-ℤ◌, ℕ, ℤ, pos, true, false, int_lt, if◌then◌else◌, List, length}
use Rattle.std.specs.Prelude.{slice_get}
use Rattle.std.specs.Prelude.{Option, Some, None}
use Rattle.std.specs.Int.{int_max}
use Rattle.std.specs.Option.{unwrap_or}
use Rattle.ics_file.specs.File.{FileSaid}
use Rattle.ics_event.specs.declared.event.Event.{Event}
use Rattle.ics_values.specs.declared.time.Rdate.TheVariants.{At}
use Rattle.ics_days.specs.declared.span.Span.{Span}
use Rattle.ics_listing.specs.declared.window.Window.{Window}
use Rattle.ics_listing.specs.FileClocks.{Clock, Clocks}
use Rattle.ics_starts.specs.Clocks.{instant}
use Rattle.ics_listing.specs.After.{is_after}
use Rattle.ics_listing.specs.Entry.{Entry, Rank}
use Rattle.ics_starts.specs.Finish.{finish}
use Rattle.ics_starts.specs.Quiet.{IsQuietTo}
use Rattle.ics_listing.specs.WindowBounds.{occurrence_first}
use Rattle.ics_listing.specs.WindowMeeting.{is_met}
use Rattle.ics_starts.specs.MeetsWindow.{Meets}
use Rattle.ics_starts.specs.Instances.{IsOf}
use Rattle.ics_days.specs.Spans.{always, can_meet, first_at}
use Rattle.ics_days.specs.NearDays.{IsNearDay}
use Rattle.ics_series.specs.Inner.Masters.{IsUnreplaced}
use Rattle.ics_series.specs.PlacedEvents.{clocks_at}
use Rattle.ics_starts.specs.SingleEvents.{entry_first, is_single}
use Rattle.ics_series.specs.Spots.{event_at}
use Rattle.ics_series.specs.Versions.{Label}
use Rattle.ics_zone.specs.declared.bounds.Bounds.{Bounds}

-- from the start to the finish of an event, if it begins before the window's end, and else that end alone
abbrev pub span_once : Clocks → Window → Event → Span
span_once clocks w event =
    if int_lt (instant clocks event.start) w.to
    then record { first = instant clocks event.start; last = finish clocks event (At event.start) }
    else record { first = w.to; last = w.to }

-- an event that recurs may be at any time
abbrev pub span_by : Clocks → Window → Event → Span
span_by clocks w event = if is_single event then span_once clocks w event else always

abbrev pub span_of : Clocks → Window → Option Event → Span
span_of clocks w None = always
span_of clocks w (Some event) = span_by clocks w event

-- that of the event of a version
abbrev pub span_at : List FileSaid → Clock → Window → Label → Span
span_at files display w label = span_of (clocks_at files display label.spot.file) w (event_at files label.spot)

-- an occurrence begins at an instant or later, if there is one
abbrev pub IsStartedBy : Option ℤ → Entry → Type 0
IsStartedBy None o = Unit {0}
IsStartedBy (Some floor) o = floor ≤ℤ o.start

-- where what began before a window is left out, an instant just before it
abbrev pub floor_of : Window → Option ℤ
floor_of w = if w.notstarted then Some (w.from -ℤ pos 1) else None

-- an occurrence begins at an instant or later, if there is one, and no override replaces it
pub record IsKeptFrom (files : List FileSaid) (display : Clock) (floor : Option ℤ) (o : Entry) : Type 0 where
  pub started : IsStartedBy floor o
  pub kept : IsUnreplaced files display o

-- No occurrence of the event that is asked for meets a window: of one that starts once that at its DTSTART, whatever instance that is.
pub record NoneMeets (clocks : Clocks) (event : Event) (w : Window) (IsAsked : Entry → Type 0) : Type 0 where
  pub once : is_single event ≡ true → (r : Option ℤ) → is_met w (entry_first clocks event r) ≡ false
  pub each : is_single event ≡ false → (o : Entry) → IsOf clocks event o → Meets w o → IsAsked o → ⊥

-- If the span cannot meet a window, no occurrence of the event that is asked for does. No such occurrence of one that recurs begins before the span.
pub record IsSpanOf (clocks : Clocks) (event : Event) (w : Window) (IsAsked : Entry → Type 0) (s : Span) : Type 0 where
  pub none : can_meet s w ≡ false → NoneMeets clocks event w IsAsked
  pub first : is_single event ≡ false → (o : Entry) → IsOf clocks event o → Meets w o → IsAsked o → occurrence_first ≤ℤ o.start → s.first ≤ℤ o.start

-- the span at a place is that of the event of the version there
abbrev pub AreSpans : List FileSaid → Clock → Window → Option ℤ → List Label → List Span → Type 0
AreSpans files display w floor labels spans =
    (k : ℕ) (s : Span) (l : Label) (event : Event) → slice_get spans k ≡ Some s → slice_get labels k ≡ Some l → event_at files l.spot ≡ Some event
    → IsSpanOf (clocks_at files display l.spot.file) event w (IsKeptFrom files display floor) s

-- a window begins no earlier than another, of the same kind
pub record IsLater (w n : Window) : Type 0 where
  pub from : w.from ≤ℤ n.from
  pub same : w.notstarted ≡ n.notstarted

-- they are so for all that comes after a key
pub record AreSpansBehind (files : List FileSaid) (display : Clock) (w : Window) (after : Option Rank) (labels : List Label) (spans : List Span) : Type
    0 where
  pub floor : Option ℤ
  pub started : (o : Entry) → is_after after o ≡ true → IsStartedBy floor o
  pub are : AreSpans files display w floor labels spans

-- they are so for what is listed of what a window holds near each day after one
abbrev pub AreSpansAfter : List FileSaid → Clock → Bounds → Window → ℤ → List Label → List Span → Type 0
AreSpansAfter files display b w day labels spans =
    (x : ℤ) (n : Window) → day <ℤ x → IsNearDay display w b x n → AreSpans files display n (floor_of w) labels spans

-- what is known of the occurrences from a window's end on, if none meets it
pub record IsRest (clocks : Clocks) (event : Event) (w : Window) (since : ℤ) (s : Span) : Type 0 where
  pub last : s.last ≡ pos 9_223_372_036_854_775_807
  pub first : IsQuietTo clocks event w since s.first

-- each span is there from before, or is this one at this place
abbrev pub IsSpanPut : List Span → ℕ → Span → List Span → Type 0
IsSpanPut old place span new =
    (length new ≡ length old)
    × ((k : ℕ) (s : Span) → slice_get new k ≡ Some s → (slice_get old k ≡ Some s) ⊎ ((k ≡ place) × (s ≡ span)))

-- of a series that begins by an instant, or with the span at a place, that span is the rest
pub record IsPutOff (clocks : Clocks) (event : Event) (w : Window) (since : ℤ) (floor : Option ℤ) (old : List Span) (place : ℕ) (new : List Span) : Type
    0 where
  pub low : since ≤ℤ int_max (unwrap_or floor always.first) (first_at old place)
  pub span : Span
  pub rest : IsRest clocks event w since span
  pub put : IsSpanPut old place span new
