-- The versions of the events of a folder in their order, and those of them that count.
use Rattle.std.specs.Prelude.{◌≡◌, ◌&&◌, ℕ, ◌+◌, ◌++◌, Bool, false, List, [], ◌∷◌, map, is_some, if◌then◌else◌}
use Rattle.std.specs.List.{list_any}
use Rattle.std.specs.Option.{option_cmp, option_eq}
use Rattle.std.specs.Ordering.{int_cmp, int_eq, is_eq, nat_cmp, on, then_cmp}
use Rattle.std.specs.Cmp.Lexicographic.{slice_cmp}
use Rattle.std.specs.Str.{bytes_eq}
use Rattle.std.specs.declared.cmp.Ordering.{Ordering}
use Rattle.ics_file.specs.File.{FileSaid}
use Rattle.ics_event.specs.declared.event.Event.{Event}
use Rattle.ics_series.specs.declared.spot.Spot.{Spot}
use Rattle.ics_series.specs.declared.version.Subject.{Subject}
use Rattle.ics_series.specs.declared.version.Version.{Version}
use Rattle.ics_series.specs.Chosen.{SubjectSeen, subject_by, subject_of, IsChosen}
use Rattle.ics_listing.specs.FileClocks.{Clock, Clocks}
use Rattle.ics_listing.specs.Listing.{IsListing}
use Rattle.ics_series.specs.PlacedEvents.{Placed, placed_cmp}

-- what identifies a version
pub record Label : Type 0 where
  pub subject : SubjectSeen
  pub sequence : ℕ
  pub spot : Spot

abbrev pub subject_seen : Subject → SubjectSeen
subject_seen s = record { uid = s.uid.now; recurrence = s.recurrence }

abbrev pub seen : Version → Label
seen v = record { subject = subject_seen v.subject; sequence = v.sequence; spot = v.spot }

abbrev pub spot_of : Placed → Spot
spot_of p = record { file = p.file; place = p.place }

abbrev pub label_by : Clocks → Placed → Label
label_by clocks p = record { subject = subject_by clocks p.event; sequence = p.event.sequence; spot = spot_of p }

abbrev pub label_of : List FileSaid → Clock → Placed → Label
label_of files display p = record { subject = subject_of files display p; sequence = p.event.sequence; spot = spot_of p }

-- the events of a file, which are those from a place on
abbrev pub placed_from : ℕ → ℕ → List Event → List Placed
placed_from file place [] = []
placed_from file place (e ∷ es) = record { file = file; place = place; event = e } ∷ placed_from file (place + 1) es

-- the events of the files, which are numbered from `file` on
abbrev pub placed_in : ℕ → List FileSaid → List Placed
placed_in file [] = []
placed_in file (f ∷ fs) = placed_from file 0 f.events ++ placed_in (file + 1) fs

-- by the bytes of the UID, then by the instance: the master comes before the overrides
abbrev pub subject_cmp : SubjectSeen → SubjectSeen → Ordering
subject_cmp = then_cmp (on (λ s. s.uid) (slice_cmp nat_cmp)) (on (λ s. s.recurrence) (option_cmp int_cmp))

-- by subject
abbrev pub by_subject : List FileSaid → Clock → Placed → Placed → Ordering
by_subject files display = on (subject_of files display) subject_cmp

-- by subject, and then by what makes a version count
abbrev pub version_cmp : List FileSaid → Clock → Placed → Placed → Ordering
version_cmp files display = then_cmp (by_subject files display) placed_cmp

-- by subject, then by SEQUENCE, file and place
abbrev pub label_cmp : Label → Label → Ordering
label_cmp =
    then_cmp (on (λ l. l.subject) subject_cmp)
    (then_cmp (on (λ l. l.sequence) nat_cmp) (then_cmp (on (λ l. l.spot.file) nat_cmp) (on (λ l. l.spot.place) nat_cmp)))

abbrev pub is_same : Label → Label → Bool
is_same a b = bytes_eq a.subject.uid b.subject.uid && option_eq int_eq a.subject.recurrence b.subject.recurrence

-- x is the same as the first of the list
abbrev pub is_followed : {A : Type 0} → (A → A → Bool) → A → List A → Bool
is_followed same x [] = false
is_followed same x (y ∷ ys) = same x y

-- the last of each run of the same
abbrev pub lasts : {A : Type 0} → (A → A → Bool) → List A → List A
lasts same [] = []
lasts same (x ∷ xs) = if is_followed same x xs then lasts same xs else x ∷ lasts same xs

-- the version is one of an override
abbrev pub is_override : Label → Bool
is_override l = is_some l.subject.recurrence

-- one of the versions has this subject
abbrev pub is_named : SubjectSeen → List Label → Bool
is_named s labels = list_any (λ l. is_eq (subject_cmp l.subject s)) labels

-- the versions are those that count, in the order of their subjects
pub record AreChosen (files : List FileSaid) (display : Clock) (versions : List Version) : Type 0 where
  pub chosen : List Placed
  pub listing : IsListing (by_subject files display) (IsChosen files display) chosen
  pub are : map seen versions ≡ map (label_of files display) chosen
