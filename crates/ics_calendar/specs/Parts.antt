-- WHAT A FILE GIVES where a listing goes on behind faults: its sound parts, and which faults are named then.
use Rattle.std.specs.Prelude.{◌≡◌, ◌⊎◌, ℕ, Bool, ◌&&◌, ◌||◌, not, ◌==◌, List, [], ◌∷◌, ◌++◌, filter, map, fold, is_none, is_ok, Result, Ok, Err, if◌then◌else◌}
use Rattle.std.specs.BTreeSet.{insert_key}
use Rattle.std.specs.List.{Contains, flat_map, list_any}
use Rattle.std.specs.Ordering.{nat_cmp, on, then_cmp}
use Rattle.std.specs.Str.{bytes_eq}
use Rattle.std.specs.declared.cmp.Ordering.{Ordering}
use Rattle.ics_text.specs.Unfolded.{begins_with_fold}
use Rattle.ics_components.specs.contracts.fault.FaultKindOrd.TheImpl as order
use Rattle.ics_components.specs.declared.fault.Fault.{Fault}
use Rattle.ics_components.specs.declared.name.Name.TheVariants as name
use Rattle.ics_components.specs.EventLines.{all_events, has_no_uid, has_parts, has_uid, texts_in, uids_of, with_uids, zones_named}
use Rattle.ics_components.specs.FirstFault.{first_fault}
use Rattle.ics_components.specs.Observances.{begins_zone}
use Rattle.ics_components.specs.PartFaults.{is_within}
use Rattle.ics_components.specs.PlacedLines.{Placed, calendar_of, in_calendar, innermost, is_end, is_named, placed}
use Rattle.ics_file.specs.File.{FileSaid}
use Rattle.ics_calendar.specs.Files.{file_of, lines_say, wanted_names}
use Rattle.ics_calendar.specs.GivenFiles.{GivenFiles}
use Rattle.ics_calendar.specs.Wanted.{each_once, unknown_names}

-- a file by its name and its bytes
pub record NamedFile : Type 0 where
  pub name : List ℕ
  pub bytes : List ℕ

-- A PART is some of the events of a file, by their BEGIN lines.
abbrev pub Part : Type 0
Part = List Placed

-- THE PARTS OF A FILE: for each UID all events that have it, and each event without one alone.
abbrev pub parts_of : List Placed → List Part
parts_of lines =
    map (λ uid. filter (has_uid lines uid) (all_events lines)) (each_once (flat_map (uids_of lines) (all_events lines)))
    ++ map (λ event. event ∷ []) (filter (has_no_uid lines) (all_events lines))

-- the line on which a component begins, or one within it
abbrev pub is_of : Placed → Placed → Bool
is_of begin line = line.number == begin.number || is_within begin.number line

-- BEGIN, END and VERSION of the calendar in which an event is
abbrev pub frames : Placed → Placed → Bool
frames event line =
    line.number == calendar_of event.path
    || (in_calendar line && (innermost line.path == calendar_of event.path && (is_end line || is_named name.Version line)))

-- a time zone begins in the same calendar whose TZID the event names
abbrev pub is_zone_of : List Placed → Placed → Placed → Bool
is_zone_of lines event begin =
    begins_zone begin
    && (calendar_of begin.path == calendar_of event.path
    && list_any (λ zone. list_any (bytes_eq zone) (texts_in name.Tzid lines begin)) (zones_named lines event))

-- THE LINES OF A PART: those of its events, of their calendars, and of the time zones that they name.
abbrev pub needs : List Placed → Placed → Placed → Bool
needs lines event line = is_of event line || (frames event line || list_any (λ begin. is_zone_of lines event begin && is_of begin line) lines)

abbrev pub is_in_part : List Placed → Placed → Part → Bool
is_in_part lines line part = list_any (λ event. needs lines event line) part

abbrev pub lines_of : List Placed → Part → List Placed
lines_of lines part = filter (λ line. is_in_part lines line part) lines

-- the lines of several parts, each once
abbrev pub lines_of_all : List Placed → List Part → List Placed
lines_of_all lines parts = filter (λ line. list_any (is_in_part lines line) parts) lines

-- THE REST: the lines of the file without its events.
abbrev pub rest_of : List Placed → List Placed
rest_of lines = filter (λ line. not (list_any (λ event. is_of event line) (all_events lines))) lines

-- what some lines say, or nothing where a fault stands in them; and that fault
abbrev pub nothing_said : FileSaid
nothing_said = record { zones = []; events = [] }

abbrev pub said_in : Result FileSaid Fault → FileSaid
said_in (Ok said) = said
said_in (Err fault) = nothing_said

abbrev pub fault_in : Result FileSaid Fault → List Fault
fault_in (Ok said) = []
fault_in (Err fault) = fault ∷ []

-- faults by their lines, then by their kinds, each once
abbrev pub fault_cmp : Fault → Fault → Ordering
fault_cmp = then_cmp (on (λ f. f.line) nat_cmp) (on (λ f. f.kind) order.ghosts.cmp)

abbrev pub in_order : List Fault → List Fault
in_order faults = fold (insert_key fault_cmp) [] faults

-- THE EVENTS that a file gives, and THE FAULTS that are named.
pub record Given : Type 0 where
  pub said : FileSaid
  pub faults : List Fault

-- the parts that are accepted with these zone files
abbrev pub accepted_parts : GivenFiles → List Placed → List Part
accepted_parts files lines = filter (λ part. is_ok (lines_say files (lines_of lines part))) (parts_of lines)

-- What the parts of a refused file give: the events of those that are accepted, in the order of the file. The first faults of the file, of the other parts
-- and of the rest are named.
abbrev pub parts_give : GivenFiles → List Placed → Fault → Given
parts_give files lines fault = record {
  said = said_in (lines_say files (lines_of_all lines (accepted_parts files lines)));
  faults = in_order (fault ∷ flat_map (λ part. fault_in (lines_say files (lines_of lines part))) (parts_of lines)
      ++ fault_in (lines_say files (rest_of lines)));
}

-- whether a file has parts
abbrev pub is_parted : List ℕ → Bool
is_parted file = not (begins_with_fold file) && has_parts (placed file)

-- what a file gives, given its name and what it is: an accepted one all its events, and a refused one those of its accepted parts
abbrev pub given_where : GivenFiles → List ℕ → List ℕ → Result FileSaid Fault → Given
given_where files name file (Ok said) = record { said = said; faults = [] }
given_where files name file (Err fault) =
    if is_parted file then parts_give files (with_uids name (placed file)) fault
    else record { said = nothing_said; faults = fault ∷ [] }

-- WHAT A FILE GIVES.
abbrev pub file_gives : GivenFiles → List ℕ → List ℕ → Given
file_gives files name file = given_where files name file (file_of files file)

-- WHICH ZONE FILES ARE ASKED FOR: those that the parts want in which the first round finds nothing.
abbrev pub sound_parts : List Placed → List Part
sound_parts lines = filter (λ part. is_none (first_fault (lines_of lines part))) (parts_of lines)

abbrev pub parts_want : List Placed → List (List ℕ)
parts_want lines = each_once (unknown_names (lines_of_all lines (sound_parts lines)))

abbrev pub names_for_parts : List ℕ → List ℕ → List (List ℕ)
names_for_parts name file =
    if is_none (first_fault (placed file)) then wanted_names file
    else if is_parted file then parts_want (with_uids name (placed file))
    else []

-- An event is in a part that is accepted.
abbrev pub IsGiven : GivenFiles → List Placed → Placed → Type 0
IsGiven files lines event = (part : Part) × Contains (accepted_parts files lines) part × Contains part event

-- It is in one that is accepted, or in one whose first fault is one of these.
abbrev pub IsGivenOrNamed : GivenFiles → List Placed → List Fault → Placed → Type 0
IsGivenOrNamed files lines faults event =
    (part : Part) × Contains (parts_of lines) part × Contains part event
    × (Contains (accepted_parts files lines) part ⊎ ((fault : Fault) × (lines_say files (lines_of lines part) ≡ Err fault) × Contains faults fault))
