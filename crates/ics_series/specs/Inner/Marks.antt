-- The marks of versions: where searches for the starts of their rules began, so that later searches can go on from there.
use Rattle.std.specs.Prelude.{◌≡◌, ◌⊎◌, ℕ, List, Option, Some, is_none, map, true, slice_get}
use Rattle.std.specs.Coded.{Π_prop}
use Rattle.std.specs.List.{AllByRecursion}
use Rattle.ics_file.specs.File.{FileSaid}
use Rattle.ics_listing.specs.FileClocks.{Clock}
use Rattle.ics_event.specs.declared.event.Event.{Event}
use Rattle.ics_series.specs.Spots.{event_at}
use Rattle.ics_series.specs.Versions.{seen, AreChosen, Label}
use Rattle.ics_series.specs.declared.version.Version.{Version}
use Rattle.ics_starts.specs.declared.mark.Mark.{Mark}
use Rattle.ics_starts.specs.RuleMarks.{IsMarkOf, mark-prop}

-- the marks at the places of versions are those of the rules of their events
abbrev pub AreMarks : List FileSaid → List Label → List (Option Mark) → Type 0
AreMarks files labels marks =
    (place : ℕ) (mark : Option Mark) (label : Label) (event : Event) → slice_get marks place ≡ Some mark → slice_get labels place ≡ Some label
    → event_at files label.spot ≡ Some event → IsMarkOf event mark

-- there is no mark at any place
abbrev pub HasNoMark : List (Option Mark) → Type 0
HasNoMark marks = AllByRecursion (λ mark. is_none mark ≡ true) marks

-- Of what stands at places at a later time each was there before, or it is this one, at this place.
abbrev pub IsPut : {A : Type 0} → List (Option A) → ℕ → Option A → List (Option A) → Type 0
IsPut {A = A} old place put new = (k : ℕ) (m : Option A) → slice_get new k ≡ Some m → (slice_get old k ≡ Some m) ⊎ ((k ≡ place) × (m ≡ put))

-- the marks of versions stay such, in files of which something is known
pub record StayMarks (versions : List Version) (IsKnown : List FileSaid → Clock → Type 0) (old new : List (Option Mark)) : Type 0 where
  pub still : (files : List FileSaid) (display : Clock) → AreChosen files display versions → IsKnown files display
      → AreMarks files (map seen versions) old → AreMarks files (map seen versions) new

pub marks-prop : (files : List FileSaid) (labels : List Label) (marks : List (Option Mark)) → IsProp (AreMarks files labels marks)
marks-prop files labels marks =
    Π_prop λ place. Π_prop λ mark. Π_prop λ label. Π_prop λ event. Π_prop λ m. Π_prop λ l. Π_prop λ e. mark-prop event mark
