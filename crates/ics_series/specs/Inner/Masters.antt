-- The lists of the versions that count and whose events recur, one for each.
use Rattle.std.specs.Prelude.{◌≡◌, ◌⊎◌, [], ◌<ℤ◌, ◌≤ℤ◌, ◌++◌, ℕ, ℤ, int_le, true, false, List, map, Option, None, Some}
use Rattle.std.specs.Prelude.{if◌then◌else◌}
use Rattle.std.specs.List.{filter_map, AllByRecursion}
use Rattle.std.specs.Str.{bytes_eq}
use Rattle.ics_file.specs.File.{FileSaid}
use Rattle.ics_event.specs.declared.event.Event.{Event}
use Rattle.ics_listing.specs.declared.window.Window.{Window}
use Rattle.ics_listing.specs.FileClocks.{Clock}
use Rattle.ics_listing.specs.Entry.{Entry, Rank, entry_cmp}
use Rattle.ics_listing.specs.Listing.{IsIn, IsListing}
use Rattle.ics_starts.specs.MeetsWindow.{Meets}
use Rattle.ics_listing.specs.After.{is_after}
use Rattle.ics_starts.specs.Instances.{IsOf}
use Rattle.ics_series.specs.Chosen.{IsOverridden}
use Rattle.ics_series.specs.PlacedEvents.{clocks_at}
use Rattle.ics_listing.specs.Rising.{Rises}
use Rattle.ics_starts.specs.SingleEvents.{is_single}
use Rattle.ics_listing.specs.FeedSources.{Recurring, Source}
use Rattle.ics_series.specs.Sources.{uid_cmp, IsFrom}
use Rattle.ics_listing.specs.FeedSources.Source.{Of}
use Rattle.ics_series.specs.Replaced.{AreReplaced}
use Rattle.ics_series.specs.Spots.{event_at}
use Rattle.ics_series.specs.Versions.{Label}
use Rattle.ics_listing.specs.WindowBounds.{occurrence_first, window_last}

-- the event of a version is a master that recurs
pub record Recurs (files : List FileSaid) (l : Label) : Type 0 where
  pub event : Event
  pub stands : event_at files l.spot ≡ Some event
  pub recurs : is_single event ≡ false

-- no override replaces an occurrence
abbrev pub IsUnreplaced : List FileSaid → Clock → Entry → Type 0
IsUnreplaced files display o = IsOverridden files display o.event.uid o.recurrence → ⊥

-- an occurrence of the event of this version, which recurs, that meets the window and comes after the key, and that no override replaces
pub record IsOfVersion (files : List FileSaid) (display : Clock) (w : Window) (after : Option Rank) (l : Label) (o : Entry) : Type 0 where
  pub by : Recurs files l
  pub of : IsOf (clocks_at files display l.spot.file) by.event o
  pub meets : Meets w o
  pub later : is_after after o ≡ true
  pub kept : IsUnreplaced files display o

-- the instant of the instance of a UID that a version overrides
abbrev pub named : List ℕ → Label → Option ℤ
named uid l = if bytes_eq l.subject.uid uid then l.subject.recurrence else None

-- those of all of these versions
abbrev pub named_by : List ℕ → List Label → List ℤ
named_by uid labels = filter_map (named uid) labels

-- Of the occurrences of a master with this UID that can meet a window, those that begin at this instant or later come after the key.
abbrev pub IsSince : Option Rank → List ℕ → ℤ → Type 0
IsSince after uid since =
    (o : Entry) → o.event.uid ≡ uid → o.recurrence ≡ o.start → occurrence_first ≤ℤ o.start → o.start <ℤ window_last
    → is_after after o ≡ int_le since o.start

-- of the occurrences of a version's event that begin before the window's end, those that begin at this instant or later come after the key
abbrev pub IsBehind : List FileSaid → Clock → Window → Option Rank → Label → ℤ → Type 0
IsBehind files display w after l since =
    (r : Recurs files l) (o : Entry) → IsOf (clocks_at files display l.spot.file) r.event o → o.start <ℤ w.to
    → (occurrence_first ≤ℤ o.start) × (since ≤ℤ o.start → is_after after o ≡ true)

-- of the occurrences of a version that meet the window and come after the key, those that can meet a window begin at this instant or later
abbrev pub AreFrom : List FileSaid → Clock → Window → Option Rank → Label → ℤ → Type 0
AreFrom files display w after l begin = (o : Entry) → IsOfVersion files display w after l o → occurrence_first ≤ℤ o.start → begin ≤ℤ o.start

-- the list is that of the occurrences of one of these versions
pub record IsOneOf (files : List FileSaid) (display : Clock) (w : Window) (after : Option Rank) (labels : List Label) (list : List Entry) : Type 0 where
  pub label : Label
  pub stands : IsIn label labels
  pub listing : IsListing entry_cmp (IsOfVersion files display w after label) list

-- the list of a version is among these, or has nothing
pub record HasList (files : List FileSaid) (display : Clock) (w : Window) (after : Option Rank) (lists : List (List Entry)) (label : Label) : Type 0 where
  pub list : List Entry
  pub stands : (list ≡ []) ⊎ IsIn list lists
  pub listing : IsListing entry_cmp (IsOfVersion files display w after label) list

-- these lists are those of the occurrences of versions whose events recur, one for each that has any
pub record AreLists (files : List FileSaid) (display : Clock) (w : Window) (after : Option Rank) (labels : List Label) (lists : List (List Entry)) : Type
    0 where
  pub each : AllByRecursion (IsOneOf files display w after labels) lists
  pub every : (l : Label) → IsIn l labels → Recurs files l → HasList files display w after lists l

-- these lists follow the lists that were there before
pub record HasLists (files : List FileSaid) (display : Clock) (w : Window) (after : Option Rank) (labels : List Label) (before now : List (List Entry)) : Type
    0 where
  pub more : List (List Entry)
  pub are : AreLists files display w after labels more
  pub behind : now ≡ before ++ more

-- the master is that of this version, which recurs, in the window and after the key
pub record IsSourceOf (files : List FileSaid) (display : Clock) (w : Window) (after : Option Rank) (label : Label) (m : Recurring) : Type 0 where
  pub stands : event_at files label.spot ≡ Some m.event
  pub recurs : is_single m.event ≡ false
  pub clocks : m.clocks ≡ clocks_at files display label.spot.file
  pub window : m.window ≡ w
  pub since : IsFrom after m.since
  pub replaced : AreReplaced files display m.event.uid m.replaced

-- the master is that of one of these versions
pub record IsSource (files : List FileSaid) (display : Clock) (w : Window) (after : Option Rank) (labels : List Label) (m : Recurring) : Type 0 where
  pub label : Label
  pub stands : IsIn label labels
  pub is : IsSourceOf files display w after label m

-- such masters, each with a UID of its own, follow the sources that were there before
pub record HasSources (files : List FileSaid) (display : Clock) (w : Window) (after : Option Rank) (labels : List Label) (before now : List Source) : Type
    0 where
  pub more : List Recurring
  pub each : AllByRecursion (IsSource files display w after labels) more
  pub rises : Rises uid_cmp more
  pub behind : now ≡ before ++ map Of more
