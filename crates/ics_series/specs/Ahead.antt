-- What is still to come of a listing under each day.
use Rattle.std.specs.Prelude.{◌≡◌, ◌<ℤ◌, ◌∷◌, ◌++◌, ℤ, List, filter, map, Option, Some, None}
use Rattle.ics_file.specs.File.{said_by, FileSaid}
use Rattle.ics_series.specs.declared.agenda.Agenda.{Agenda}
use Rattle.ics_series.specs.declared.days.Days.{Days}
use Rattle.ics_listing.specs.declared.occurrence.Occurrence.{Occurrence}
use Rattle.ics_listing.specs.declared.window.Window.{Window}
use Rattle.ics_listing.specs.FileClocks.{Clock}
use Rattle.ics_starts.specs.Clocks.{display_clock}
use Rattle.ics_series.specs.DaySteps.{scope_in, Scope}
use Rattle.ics_series.specs.OnDays.{IsOnDay}
use Rattle.ics_days.specs.Today.{is_today}
use Rattle.ics_listing.specs.DayKeys.{on_day, on_day_cmp, OnDay}
use Rattle.ics_listing.specs.Entry.{Entry, entry_of}
use Rattle.ics_listing.specs.Listing.{IsListing}
use Rattle.ics_listing.specs.Merges.{merge_coming}
use Rattle.ics_series.specs.AgendaParts.{part_coming}

-- those of a list that meet the window and have this day there, under the day
abbrev pub today : Clock → Window → ℤ → List Entry → List OnDay
today display w day list = map (on_day day) (filter (λ o. is_today display w day o) list)

-- an occurrence of the folder under a later day
pub record IsLater (files : List FileSaid) (display : Clock) (w : Window) (day : ℤ) (p : OnDay) : Type 0 where
  pub shown : IsOnDay files display w p
  pub later : day <ℤ p.day

-- what is to come under a day, and then all under later days
pub record IsAheadOf (files : List FileSaid) (display : Clock) (w : Window) (day : ℤ) (near : List Entry) (list : List OnDay) : Type 0 where
  pub later : List OnDay
  pub listing : IsListing on_day_cmp (IsLater files display w day) later
  pub is : list ≡ today display w day near ++ later

-- what an agenda has to come
abbrev pub agenda_coming : Agenda → List Entry
agenda_coming agenda = merge_coming part_coming agenda.merge

-- what it is of
abbrev pub scope_of : Days → Scope
scope_of days = scope_in (map said_by days.files.now) (display_clock days.display.now) days.bounds days.window days.after

-- this list is still to come
abbrev pub IsAhead : Days → List OnDay → Type 0
IsAhead days list =
    IsAheadOf (map said_by days.files.now) (display_clock days.display.now) days.window days.today.day (agenda_coming days.today.agenda) list

-- what had a list to come may give this under the day, and then has the rest
abbrev pub GivesToday : ℤ → List OnDay → Option Occurrence → List OnDay → Type 0
GivesToday day list None rest = list ≡ rest
GivesToday day list (Some o) rest = list ≡ on_day day (entry_of o) ∷ rest
