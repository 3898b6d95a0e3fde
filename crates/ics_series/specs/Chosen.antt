-- Which events of a folder count: the masters and the overrides (RFC 5545, sections 3.8.4.4, 3.8.4.7 and 3.8.7.4).
use Rattle.std.specs.Prelude.{◌≡◌, ◌≢◌, ℕ, ℤ, List, Option, Some, None}
use Rattle.std.specs.Option.{option_map}
use Rattle.std.specs.declared.cmp.Ordering.TheVariants.{Less}
use Rattle.ics_file.specs.File.{FileSaid}
use Rattle.ics_event.specs.declared.event.Event.{Event}
use Rattle.ics_listing.specs.FileClocks.{Clock, Clocks}
use Rattle.ics_starts.specs.Clocks.{instant}
use Rattle.ics_series.specs.PlacedEvents.{Placed, IsPlaced, clocks_at, placed_cmp}

-- The instance of its UID that an event overrides: the instant of its RECURRENCE-ID. A master overrides none.
abbrev pub overridden : Clocks → Event → Option ℤ
overridden clocks event = option_map (instant clocks) event.recurrence

-- what the versions of an event share: its UID, and the instant of the instance that they override
pub record SubjectSeen : Type 0 where
  pub uid : List ℕ
  pub recurrence : Option ℤ

abbrev pub subject_by : Clocks → Event → SubjectSeen
subject_by clocks event = record { uid = event.uid; recurrence = overridden clocks event }

abbrev pub subject_of : List FileSaid → Clock → Placed → SubjectSeen
subject_of files display p = subject_by (clocks_at files display p.file) p.event

-- the version that counts: the greatest event of the folder with its subject
pub record IsChosen (files : List FileSaid) (display : Clock) (p : Placed) : Type 0 where
  pub placed : IsPlaced files p
  pub greatest : (q : Placed) → IsPlaced files q → subject_of files display q ≡ subject_of files display p → placed_cmp p q ≢ Less

-- the master of its UID: the one that counts of the events without a RECURRENCE-ID
pub record IsMaster (files : List FileSaid) (display : Clock) (p : Placed) : Type 0 where
  pub chosen : IsChosen files display p
  pub single : p.event.recurrence ≡ None

-- the override of the instance of its UID at an instant: the one that counts of the events with that RECURRENCE-ID
pub record IsOverride (files : List FileSaid) (display : Clock) (p : Placed) (recurrence : ℤ) : Type 0 where
  pub chosen : IsChosen files display p
  pub of : overridden (clocks_at files display p.file) p.event ≡ Some recurrence

-- an override replaces the instance of this UID at this instant
pub record IsOverridden (files : List FileSaid) (display : Clock) (uid : List ℕ) (recurrence : ℤ) : Type 0 where
  pub by : Placed
  pub is : IsOverride files display by recurrence
  pub same : by.event.uid ≡ uid
