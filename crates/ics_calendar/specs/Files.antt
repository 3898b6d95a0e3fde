-- WHAT A FILE IS: its time zones and its events, or its first fault.
use Rattle.std.specs.Prelude.{◌≡◌, ◌⊎◌, ℕ, false, IsTrue, List, [], ◌++◌, filter, map, Option, Some, None, Result, Ok, Err}
use Rattle.std.specs.Prelude.{if◌then◌else◌}
use Rattle.ics_text.specs.Unfolded.{Line, begins_with_fold, unfolded}
use Rattle.ics_components.specs.declared.deferred_check.ZoneName.{ZoneName}
use Rattle.ics_event.specs.Event.{EventSeen}
use Rattle.ics_file.specs.File.{FileSaid, FileSeen, said_by}
use Rattle.ics_calendar.specs.DeferredChecks.{KnownZones}
use Rattle.ics_calendar.specs.GivenFiles.{GivenFiles}
use Rattle.ics_calendar.specs.Wanted.{each_once, unknown_names, zones_with}
use Rattle.ics_components.specs.PlacedLines.{Placed, placed, begins_event, calendar_of, lines_in}
use Rattle.ics_components.specs.Builders.{collected_of}
use Rattle.ics_components.specs.Faults.{stands}
use Rattle.ics_calendar.specs.Events.{event_of}
use Rattle.ics_calendar.specs.LaterFaults.{stands_later}
use Rattle.ics_components.specs.declared.fault.Fault.{Fault}
use Rattle.ics_components.specs.FirstFault.{IsFirst, IsFirstOrLast, NoneStand, bad_fold, fault_at_end, first_from, first_fault}
use Rattle.ics_components.specs.declared.fault.FileFault.{FileFault}
use Rattle.ics_components.specs.declared.fault.FileFault.TheVariants.{Memory, At}

-- An event of a calendar, by the lines that stand directly in it, given the index of the zone that a name stands for.
abbrev pub event_by : (ZoneName → Option ℕ) → ℕ → List Placed → EventSeen
event_by index calendar own = event_of index calendar (collected_of own)

-- The events of all calendars, in the order of their BEGIN lines, given the index of the zone that a name stands for.
abbrev pub events_of : (ZoneName → Option ℕ) → List Placed → List EventSeen
events_of index lines = map (λ line. event_by index (calendar_of line.path) (lines_in line.number lines)) (filter begins_event lines)

-- What the file says with these zone files, where no fault stands in it. The zones of VTIMEZONEs come first.
abbrev pub said_of : GivenFiles → List Placed → FileSaid
said_of files lines = let known : KnownZones = zones_with files lines in record { zones = known.zones; events = events_of known.index lines }

-- the first fault of the second round
abbrev pub later_fault : GivenFiles → List Placed → Option Fault
later_fault files lines = first_from (stands_later (zones_with files lines)) (λ before. None) [] lines

-- WHAT A FILE IS with these zone files, as a relation: a fold at its begin comes alone; then the first fault of round one, or else that of round two, or
-- else what the file says.
abbrev pub IsFile : GivenFiles → List ℕ → Result FileSaid Fault → Type 0
IsFile files file (Err fault) =
    (IsTrue (begins_with_fold file) × (fault ≡ bad_fold))
    ⊎ ((begins_with_fold file ≡ false) × (IsFirstOrLast (placed file) fault
    ⊎ (NoneStand stands [] (placed file) × (fault_at_end (placed file) ≡ None)
    × IsFirst (stands_later (zones_with files (placed file))) [] (placed file) fault)))
IsFile files file (Ok seen) =
    (begins_with_fold file ≡ false) × NoneStand stands [] (placed file) × (fault_at_end (placed file) ≡ None)
    × NoneStand (stands_later (zones_with files (placed file))) [] (placed file)
    × (seen ≡ said_of files (placed file))

-- the first fault of round one, or else that of round two, or else what the file says
abbrev pub decide : Option Fault → Option Fault → FileSaid → Result FileSaid Fault
decide (Some fault) later said = Err fault
decide None (Some fault) said = Err fault
decide None None said = Ok said

-- WHAT SOME LINES SAY, read as a file of their own.
abbrev pub lines_say : GivenFiles → List Placed → Result FileSaid Fault
lines_say files lines = decide (first_fault lines) (later_fault files lines) (said_of files lines)

-- WHAT A FILE IS, as it computes.
abbrev pub file_of : GivenFiles → List ℕ → Result FileSaid Fault
file_of files file = if begins_with_fold file then Err bad_fold else lines_say files (placed file)

-- none, where a fault of the first round stands
abbrev pub wanted_on : Option Fault → List Placed → List (List ℕ)
wanted_on (Some fault) lines = []
wanted_on None lines = each_once (unknown_names lines)

-- WHAT A FILE WANTS.
abbrev pub wanted_names : List ℕ → List (List ℕ)
wanted_names file = if begins_with_fold file then [] else wanted_on (first_fault (placed file)) (placed file)

-- A file in which the first round finds nothing: what it wants, and what it is with zone files.
pub record UnresolvedSaid : Type 0 where
  pub wants : List (List ℕ)
  pub says : GivenFiles → Result FileSaid Fault

abbrev pub unresolved_of : List ℕ → UnresolvedSaid
unresolved_of file = record { wants = wanted_names file; says = λ files. file_of files file }

-- A fault of the first round on a line looks back only: a longer file that begins with the same lines has it as its first.
abbrev pub FaultsLookBack : Type 0
FaultsLookBack =
    (files : GivenFiles) (file longer : List ℕ) (more : List Line) (fault : Fault) → unfolded longer ≡ unfolded file ++ more → begins_with_fold longer ≡ false
    → IsFirst stands [] (placed file) fault → IsFile files longer (Err fault)

-- The answer is what the file says, or its first fault, or that memory is refused.
abbrev pub SaysFile : Result FileSeen FileFault → Result FileSaid Fault → Type 0
SaysFile (Ok seen) file = file ≡ Ok (said_by seen)
SaysFile (Err Memory) file = Unit {0}
SaysFile (Err (At line kind)) file = file ≡ Err (record { line = line; kind = kind })
