-- The masters that were searched for a day, whose spans are moved on, up to what lasts.
use Rattle.std.specs.Prelude.{◌≡◌, ◌+ℤ◌, ◌-ℤ◌, ℕ, ℤ, pos, false, List, length, map, Option, Some, None, slice_get}
use Rattle.std.specs.List.{AllByRecursion}
use Rattle.ics_fields.specs.Locals.{midnight}
use Rattle.ics_listing.specs.FeedSources.{Recurring}
use Rattle.ics_series.specs.AgendaParts.{part_sources}
use Rattle.ics_series.specs.DaySteps.{IsDayMaster, Scope}
use Rattle.ics_days.specs.NearPlaces.{AreSameBut}
use Rattle.ics_series.specs.Inner.Spans.{floor_of, AreSpansAfter}
use Rattle.ics_series.specs.Sources.{recurring}
use Rattle.ics_series.specs.Versions.{seen, AreChosen, Label}
use Rattle.ics_series.specs.declared.part.Part.{Part}
use Rattle.ics_days.specs.declared.span.Span.{Span}
use Rattle.ics_series.specs.declared.version.Version.{Version}
use Rattle.ics_starts.specs.SingleEvents.{is_single}
use Rattle.ics_zone.specs.declared.bounds.Bounds.{Bounds}

-- the least instant with which what the window holds near a later day can begin
abbrev pub begins_after : Bounds → ℤ → ℤ
begins_after b day = midnight (day +ℤ pos 1) -ℤ b.most

-- A master that was searched near a day. What ends by an instant meets nothing near a later day.
pub record IsOver (s : Scope) (day : ℤ) (floor : Option ℤ) (by : ℤ) (m : Recurring) : Type 0 where
  pub searched : IsDayMaster s day m
  pub recurs : is_single m.event ≡ false
  pub starts : floor ≡ floor_of s.window
  pub ends : by ≡ begins_after s.bounds day

-- it is so of that of a part, if this is a series
abbrev pub IsOverPart : Scope → ℤ → Option ℤ → ℤ → Part → Type 0
IsOverPart s day floor by part = AllByRecursion (IsOver s day floor by) (recurring (part_sources part))

-- the version at a place is that of the master with a UID
pub record IsMasterAt (labels : List Label) (place : ℕ) (uid : List ℕ) : Type 0 where
  pub label : Label
  pub there : slice_get labels place ≡ Some label
  pub same : label.subject.uid ≡ uid
  pub single : label.subject.recurrence ≡ None

-- As many spans as before, and other ones at near places only, are still those of the versions near each later day, of a scope and day of which
-- something is known.
pub record AreMovedOff (versions : List Version) (near : List ℕ) (IsKnown : Scope → ℤ → Type 0) (old new : List Span) : Type 0 where
  pub size : length new ≡ length old
  pub others : AreSameBut near old new
  pub still : (s : Scope) (day : ℤ) → AreChosen s.files s.display versions → IsKnown s day
      → AreSpansAfter s.files s.display s.bounds s.window day (map seen versions) old
      → AreSpansAfter s.files s.display s.bounds s.window day (map seen versions) new
