-- What a listing under each day is of, the masters that it searches, and how many periods of rules it looks at, at most.
use Rattle.std.specs.Prelude.{◌≡◌, ◌<ℤ◌, ◌≤ℤ◌, ℕ, ℤ, List, [], map, sum_by, Option, Some, None, ◌≤◌, ◌+◌, ◌+ℤ◌, zero, suc, pos, ◌∷◌}
use Rattle.std.specs.List.{AllByRecursion}
use Rattle.std.specs.Option.{option_map}
use Rattle.ics_file.specs.File.{FileSaid}
use Rattle.ics_series.specs.declared.agenda.Agenda.{Agenda}
use Rattle.ics_listing.specs.declared.window.Window.{Window}
use Rattle.ics_series.specs.Chosen.{IsMaster}
use Rattle.ics_listing.specs.FileClocks.{Clock}
use Rattle.ics_listing.specs.DayKeys.{DayRank, OnDay}
use Rattle.ics_listing.specs.Entry.{entry_cmp, Entry, Rank}
use Rattle.ics_series.specs.HeldMost.{Master}
use Rattle.ics_series.specs.Holding.{part_holds, part_looked}
use Rattle.ics_listing.specs.Listing.{IsListing, IsIn}
use Rattle.ics_series.specs.Meets.{IsToCome}
use Rattle.ics_days.specs.NearDays.{first_near, last_near, IsNearDay}
use Rattle.ics_listing.specs.Merges.{merge_all, merge_holds, merge_looked}
use Rattle.ics_series.specs.AgendaParts.{part_sources}
use Rattle.ics_series.specs.PlacedEvents.{Placed}
use Rattle.ics_series.specs.Replaced.{AreReplaced}
use Rattle.ics_series.specs.Sources.{master_at, master_of, recurring, AreSources}
use Rattle.ics_listing.specs.FeedSources.{Recurring, Source}
use Rattle.ics_series.specs.Versions.{by_subject}
use Rattle.ics_series.specs.Steps.{HasStepBound}
use Rattle.ics_zone.specs.declared.bounds.Bounds.{Bounds}

-- The files, the display clock with two offsets between which it stays in the window, that window and, for a listing after a key, the day and the start
-- in that.
pub record Scope : Type 0 where
  pub files : List FileSaid
  pub display : Clock
  pub bounds : Bounds
  pub window : Window
  pub after : Option (ℤ × ℤ)

abbrev pub scope_in : List FileSaid → Clock → Bounds → Window → Option (ℤ × ℤ) → Scope
scope_in files display b w after = record { files = files; display = display; bounds = b; window = w; after = after }

-- the day and the start in a key
abbrev pub day_and_start : DayRank → ℤ × ℤ
day_and_start key = (key.day, key.key.start)

abbrev pub scope_by : List FileSaid → Clock → Bounds → Window → Option DayRank → Scope
scope_by files display b w after = scope_in files display b w (option_map day_and_start after)

-- these are the masters of its files
abbrev pub AreMasters : Scope → List Placed → Type 0
AreMasters s masters = IsListing (by_subject s.files s.display) (IsMaster s.files s.display) masters

-- each with the clocks by which its times are read
abbrev pub masters_in : Scope → List Placed → List Master
masters_in s masters = map (master_at s.files s.display) masters

-- what the occurrences of an agenda belong to
abbrev pub agenda_sources : Agenda → List Source
agenda_sources agenda = merge_all part_sources agenda.merge

-- the built occurrences that it holds
abbrev pub agenda_holds : Agenda → List Entry
agenda_holds agenda = merge_holds part_holds agenda.merge

-- how many periods of rules it has looked at
abbrev pub agenda_looked : Agenda → ℕ
agenda_looked agenda = merge_looked part_looked agenda.merge

-- on the day of the key, if there is one, an instant is not before the start in it
abbrev pub IsFromStart : Option (ℤ × ℤ) → ℤ → ℤ → Type 0
IsFromStart None day since = Unit {0}
IsFromStart (Some after) day since = day ≡ after.0 → after.1 ≤ℤ since

-- a master in what the window holds near a day, from such an instant on
pub record IsSearched (s : Scope) (day : ℤ) (master : Master) (m : Recurring) : Type 0 where
  pub same : master_of m ≡ master
  pub near : IsNearDay s.display s.window s.bounds day m.window
  pub from : IsFromStart s.after day m.since

-- it is so of the master of its UID in the folder
pub record IsDayMaster (s : Scope) (day : ℤ) (m : Recurring) : Type 0 where
  pub by : Placed
  pub is : IsMaster s.files s.display by
  pub searched : IsSearched s day (master_at s.files s.display by) m
  pub replaced : AreReplaced s.files s.display by.event.uid m.replaced

-- it is so of the masters among these sources
abbrev pub AreDayMasters : Scope → ℤ → List Source → Type 0
AreDayMasters s day sources = AllByRecursion (IsDayMaster s day) (recurring sources)

-- The search in a window near a day and behind a key: an agenda has this to come, and these sources.
pub record IsNearAgenda (files : List FileSaid) (display : Clock) (IsNear : Window → Type 0) (key : Option Rank) (coming : List Entry)
    (sources : List Source) : Type 0 where
  pub window : Window
  pub near : IsNear window
  pub listing : IsListing entry_cmp (IsToCome files display window key) coming
  pub are : AreSources files display window key sources

-- past the last day there is nothing to search
pub record IsPastAgenda (last day : ℤ) (coming : List Entry) (sources : List Source) : Type 0 where
  pub past : last <ℤ day
  pub none : coming ≡ []
  pub no_source : sources ≡ []

-- The day with which a listing begins: that of the key, or without one the first that its clock can show in the window.
abbrev pub day_of_key : ℤ → Option (ℤ × ℤ) → ℤ
day_of_key first None = first
day_of_key first (Some after) = after.0

abbrev pub begin_day : Scope → ℤ
begin_day s = day_of_key (first_near s.window s.bounds) s.after

-- the day of the first of a list or, where it is empty, the last that the clock can show in the window
abbrev pub day_of_first : ℤ → List OnDay → ℤ
day_of_first last [] = last
day_of_first last (p ∷ list) = p.day

abbrev pub first_under : Scope → List OnDay → ℤ
first_under s list = day_of_first (last_near s.window s.bounds) list

-- most bounds the periods of the master's rule that are looked at near a day, with nothing to come there
abbrev pub HasDayBound : Scope → ℤ → Master → ℕ → Type 0
HasDayBound s day master most = (m : Recurring) → IsSearched s day master m → HasStepBound m [] most

-- these are such bounds for a day and each of the masters
abbrev pub AreDayBounds : Scope → List Placed → ℤ → (Master → ℕ) → Type 0
AreDayBounds s masters day most = (p : Placed) → IsIn p masters → HasDayBound s day (master_at s.files s.display p) (most (master_at s.files s.display p))

-- the sum of a function over so many days in a row, the first of which is given
unfoldable pub sum_days : (ℤ → ℕ) → ℤ → ℕ → ℕ
sum_days f day zero = 0
sum_days f day (suc n) = sum_days f day n + f (day +ℤ pos n)

-- the sum of the bounds for all masters and so many days, from the listing's first on
abbrev pub most_in : Scope → List Placed → (ℤ → Master → ℕ) → ℕ → ℕ
most_in s masters most n = sum_days (λ day. sum_by (most day) (masters_in s masters)) (begin_day s) n

-- the number of periods that were looked at before a day's agenda is, with the bounds for the masters in that agenda, within all such bounds up to the day
abbrev pub IsLookedBefore : Scope → ℤ → List Source → ℕ → Type 0
IsLookedBefore s day sources looked =
    (masters : List Placed) (most : ℤ → Master → ℕ) (n : ℕ) → AreMasters s masters → ((d : ℤ) → AreDayBounds s masters d (most d))
    → (begin_day s +ℤ pos n) ≡ day → looked + sum_by (most day) (map master_of (recurring sources)) ≤ most_in s masters most (suc n)

-- The bound for a listing of which this is still to come: of days in a row that begin with its first and reach that of the first to come
pub record HasDaysBound (s : Scope) (list : List OnDay) (bound : ℕ) : Type 0 where
  pub masters : List Placed
  pub are : AreMasters s masters
  pub most : ℤ → Master → ℕ
  pub each : (day : ℤ) → AreDayBounds s masters day (most day)
  pub days : ℕ
  pub reach : first_under s list <ℤ (begin_day s +ℤ pos days)
  pub is : bound ≡ most_in s masters most days
