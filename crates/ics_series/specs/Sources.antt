-- What the occurrences of a feed belong to.
use Rattle.std.specs.Prelude.{◌≡◌, ◌≤◌, ◌≤ℤ◌, ℤ, Bool, true, false, List, [], ◌∷◌, count_by, Option, Some, None}
use Rattle.std.specs.Coded.{×_prop, le_prop}
use Rattle.std.specs.List.{AllByRecursion, AllByRecursion-prop}
use Rattle.std.proofs.Props.{props}
use Rattle.std.specs.Cmp.Lexicographic.{slice_cmp}
use Rattle.std.specs.Ordering.{nat_cmp, on}
use Rattle.std.specs.declared.cmp.Ordering.{Ordering}
use Rattle.ics_file.specs.File.{FileSaid}
use Rattle.ics_listing.specs.declared.window.Window.{Window}
use Rattle.ics_series.specs.Chosen.{IsMaster}
use Rattle.ics_listing.specs.FileClocks.{Clock}
use Rattle.ics_listing.specs.Entry.{Entry, Rank}
use Rattle.ics_listing.specs.Listing.{IsIn}
use Rattle.ics_series.specs.HeldMost.{Master}
use Rattle.ics_series.specs.PlacedEvents.{Placed, clocks_at}
use Rattle.ics_series.specs.Replaced.{AreReplaced}
use Rattle.ics_listing.specs.Rising.{Rises, Rises-prop}
use Rattle.ics_starts.specs.SingleEvents.{is_single}
use Rattle.ics_listing.specs.FeedSources.{Recurring, Source}
use Rattle.ics_listing.specs.FeedSources.Source.{Once, Of}

abbrev pub is_once : Source → Bool
is_once Once = true
is_once (Of m) = false

-- the masters among these sources
abbrev pub recurring : List Source → List Recurring
recurring [] = []
recurring (Once ∷ sources) = recurring sources
recurring (Of m ∷ sources) = m ∷ recurring sources

abbrev pub master_of : Recurring → Master
master_of m = record { clocks = m.clocks; event = m.event }

-- an event as a master, read by the clocks of its file
abbrev pub master_at : List FileSaid → Clock → Placed → Master
master_at files display p = record { clocks = clocks_at files display p.file; event = p.event }

-- by the bytes of the UID
abbrev pub uid_cmp : Recurring → Recurring → Ordering
uid_cmp = on (λ m. m.event.uid) (slice_cmp nat_cmp)

-- At most one source is that of the events that start once. Each master recurs and has a UID of its own.
abbrev pub AreApart : List Source → Type 0
AreApart sources =
    (count_by is_once sources ≤ 1) × (AllByRecursion (λ m. is_single m.event ≡ false) (recurring sources) × Rises uid_cmp (recurring sources))

recurs-prop : (m : Recurring) → IsProp (is_single m.event ≡ false)
recurs-prop m = hlevel props

pub AreApart-prop : (sources : List Source) → IsProp (AreApart sources)
AreApart-prop sources =
    ×_prop le_prop (×_prop (AllByRecursion-prop (λ m. is_single m.event ≡ false) recurs-prop (recurring sources)) (Rises-prop uid_cmp (recurring sources)))

-- for a listing after a key, not before the start in the key
abbrev pub IsFrom : Option Rank → ℤ → Type 0
IsFrom None since = Unit {0}
IsFrom (Some key) since = key.start ≤ℤ since

-- the master of its UID, read by the clocks of its file, but for what overrides replace
pub record IsMasterOf (files : List FileSaid) (display : Clock) (w : Window) (after : Option Rank) (m : Recurring) : Type 0 where
  pub by : Placed
  pub is : IsMaster files display by
  pub event : m.event ≡ by.event
  pub clocks : m.clocks ≡ clocks_at files display by.file
  pub window : m.window ≡ w
  pub since : IsFrom after m.since
  pub replaced : AreReplaced files display by.event.uid m.replaced

-- what the listing of a window belongs to: the events that start once, and masters that recur, each with a UID of its own
pub record AreSources (files : List FileSaid) (display : Clock) (w : Window) (after : Option Rank) (sources : List Source) : Type 0 where
  pub apart : AreApart sources
  pub each : AllByRecursion (IsMasterOf files display w after) (recurring sources)

-- what is to come of a master begins at the instant from which that is listed, or later
abbrev pub ComeSince : List Source → List Entry → Type 0
ComeSince sources coming = (m : Recurring) (o : Entry) → IsIn m (recurring sources) → IsIn o coming → o.event ≡ m.event → m.since ≤ℤ o.start
