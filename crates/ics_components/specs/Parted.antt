-- What is gathered of a file event by event and time zone by time zone, each by itself, so that one that is faulty leaves the others as they are.
use Rattle.std.specs.Prelude.{ℕ, ◌<◌, ◌≤◌, ◌≡◌, Bool, true, false, ◌&&◌, ◌||◌, not, ◌==◌, List, [], ◌∷◌, filter, find, map, codes, Option, Some, None}
use Rattle.std.specs.Prelude.{Result, Ok, Err, IfOk, option_map, is_none, if◌then◌else◌}
use Rattle.std.specs.List.{All, flat_map, list_all}
use Rattle.std.specs.Option.{option_or}
use Rattle.std.specs.Str.{bytes_eq}
use Rattle.ics_text.specs.Unfolded.{begins_with_fold}
use Rattle.ics_text.specs.ContentLines.{Parts}
use Rattle.ics_components.specs.Components.{is_calendar_context}
use Rattle.ics_components.specs.declared.component.Component.TheVariants as component
use Rattle.ics_components.specs.declared.builder.Builder.TheVariants as builder
use Rattle.ics_components.specs.declared.fault.Fault.{Fault}
use Rattle.ics_components.specs.declared.fault.FaultKind.{FaultKind}
use Rattle.ics_components.specs.declared.fault.FaultKind.TheVariants.{BadLine, NotCalendar, OldVersion}
use Rattle.ics_components.specs.declared.frame.Frame.{Frame}
use Rattle.ics_components.specs.declared.name.Name.TheVariants as name
use Rattle.ics_components.specs.EventLines.{all_events, breaks_off, has_no_uid, has_parts, is_certain, is_event}
use Rattle.ics_components.specs.EventLines.{is_well_nested, texts_in, uids_of, with_uid, zones_named}
use Rattle.ics_components.specs.Faults.{stands}
use Rattle.ics_components.specs.FirstFault.{fault_at_end}
use Rattle.ics_components.specs.Lines.{behind, fault_on, passing}
use Rattle.ics_components.specs.Observances.{begins_zone}
use Rattle.ics_components.specs.ParsedFileSeen.{ParsedFileSeen}
use Rattle.ics_components.specs.ParsedFiles.{IsSoundParsed, and_line, nothing_parsed}
use Rattle.ics_components.specs.PartFaults.{is_within}
use Rattle.ics_components.specs.Pass.{bottom}
use Rattle.ics_components.specs.PlacedLines.{Placed, Open, context_of, in_calendar, innermost, is_begin, is_named, named, path_behind, placed, value}

-- WHAT SOME LINES ARE READ TO, by the steps of the pass: the components that are open and what is gathered, or the first fault.
pub data LinesRead : Type 0 where
  Reads : List Frame → ParsedFileSeen → LinesRead
  Broken : Fault → LinesRead

abbrev pub unless_faulty : ℕ → Option FaultKind → LinesRead → LinesRead
unless_faulty number None read = read
unless_faulty number (Some kind) read = Broken (record { line = number; kind = kind })

-- a line more
abbrev pub read_on : ℕ → Option Parts → LinesRead → LinesRead
read_on number content (Broken fault) = Broken fault
read_on number None (Reads frames had) = Broken (record { line = number; kind = BadLine })
read_on number (Some c) (Reads frames had) =
    unless_faulty number (fault_on (named c) c frames) (Reads (behind number (named c) c frames) (and_line number (passing (named c) c frames) had))

abbrev pub read_behind : LinesRead → List Placed → LinesRead
read_behind read [] = read
read_behind read (line ∷ lines) = read_behind (read_on line.number line.content read) lines

abbrev pub gathered_in : LinesRead → Result ParsedFileSeen Fault
gathered_in (Reads frames had) = Ok had
gathered_in (Broken fault) = Err fault

-- the calendar in which a component stands directly, with nothing in it, or no component
abbrev pub frames_around : List Open → List Frame
frames_around [] = bottom ∷ []
frames_around (c ∷ cs) = record { component = component.Calendar; calendar = c.begun; builder = builder.Calendar } ∷ bottom ∷ []

-- THE LINES OF A COMPONENT, from its BEGIN to its END, and what they are read to by themselves.
abbrev pub is_line_of : Placed → Placed → Bool
is_line_of begin line = line.number == begin.number || is_within begin.number line

abbrev pub block_of : List Placed → Placed → List Placed
block_of lines begin = filter (is_line_of begin) lines

abbrev pub block_read : List Placed → Placed → LinesRead
block_read lines begin = read_behind (Reads (frames_around begin.path) nothing_parsed) (block_of lines begin)

-- AN EVENT OR A TIME ZONE: the line on which its calendar begins, its UIDs, whether it is certain whose it is, the TZIDs that it has, the time zones that
-- its local times name, and what is gathered of its lines, or their first fault.
pub record PartedComponentSeen : Type 0 where
  pub calendar : ℕ
  pub uids : List (List ℕ)
  pub is_certain : Bool
  pub names : List (List ℕ)
  pub zones : List (List ℕ)
  pub read : Result ParsedFileSeen Fault

abbrev pub component_seen : List Placed → Placed → PartedComponentSeen
component_seen lines begin = record {
  calendar = innermost begin.path;
  uids = uids_of lines begin;
  is_certain = is_certain lines begin;
  names = texts_in name.Tzid lines begin;
  zones = zones_named lines begin;
  read = gathered_in (block_read lines begin);
}

-- THE OTHER LINES are those of no event and of no time zone. What stands beside them counts for none of their faults.
abbrev pub begins_part : Placed → Bool
begins_part line = is_event line || begins_zone line

-- whether a component of that name is an event or a time zone where these are open, and on which line the one begins that is among the open ones
abbrev pub is_part : List Open → List ℕ → Bool
is_part [] name = bytes_eq name (codes "VEVENT")
is_part (c ∷ cs) name = is_calendar_context (context_of (c ∷ cs)) && (bytes_eq name (codes "VEVENT") || bytes_eq name (codes "VTIMEZONE"))

abbrev pub part_in : List Open → Option ℕ
part_in [] = None
part_in (c ∷ cs) = option_or (part_in cs) (if is_part cs c.name then Some c.begun else None)

abbrev pub is_outside : Placed → Bool
is_outside line = not (begins_part line) && is_none (part_in line.path)

abbrev pub kinds_there : List FaultKind
kinds_there = BadLine ∷ NotCalendar ∷ OldVersion ∷ []

abbrev pub fault_there : Placed → Option Fault
fault_there line = option_map (λ kind. record { line = line.number; kind = kind }) (find (λ kind. stands kind [] line) kinds_there)

abbrev pub first_there : List Placed → Option Fault
first_there [] = None
first_there (line ∷ lines) = option_or (fault_there line) (first_there lines)

-- The first fault of these lines, given the time zones. A file of events alone has neither, and is no calendar without them.
abbrev pub fault_outside : List Placed → List Placed → Option Fault
fault_outside [] [] = fault_at_end []
fault_outside [] (zone ∷ zones) = None
fault_outside (line ∷ lines) zones = first_there (line ∷ lines)

-- the fault on a VERSION line of a calendar, beside the line on which that begins
abbrev pub version_faults : Placed → List (ℕ × Fault)
version_faults line =
    if in_calendar line && (is_named name.Version line && bytes_eq (value line) (codes "1.0"))
    then (innermost line.path, record { line = line.number; kind = OldVersion }) ∷ []
    else []

-- WHAT IS GATHERED, each in the order of the lines.
pub record PartedFileSeen : Type 0 where
  pub events : List PartedComponentSeen
  pub zones : List PartedComponentSeen
  pub calendars : List (ℕ × Fault)
  pub outside : Option Fault

abbrev pub parted_lines : List Placed → PartedFileSeen
parted_lines lines = record {
  events = map (component_seen lines) (all_events lines);
  zones = map (component_seen lines) (filter begins_zone lines);
  calendars = flat_map version_faults lines;
  outside = fault_outside (filter is_outside lines) (filter begins_zone lines);
}

-- the lines of a file, where each event has the UID that is made for it if a name is given
abbrev pub lines_with : Option (List ℕ) → List Placed → List Placed
lines_with None lines = lines
lines_with (Some file) lines = flat_map (with_uid file) lines

-- It is certain whose each event is, or each gets a UID.
abbrev pub is_sure : Option (List ℕ) → List Placed → Bool
is_sure None lines = list_all (is_certain lines) (all_events lines)
is_sure (Some file) lines = true

abbrev pub if_parted : Option (List ℕ) → List Placed → Option PartedFileSeen
if_parted file lines = if is_well_nested lines && not (breaks_off lines) && is_sure file lines then Some (parted_lines lines) else None

abbrev pub parted_of : Option (List ℕ) → List ℕ → Option PartedFileSeen
parted_of file bytes = if begins_with_fold bytes then None else if_parted file (lines_with file (placed bytes))

-- The file has parts, and none of its events has a UID.
abbrev pub LacksUids : List ℕ → Type 0
LacksUids bytes =
    (begins_with_fold bytes ≡ false) × (has_parts (placed bytes) ≡ true)
    × (list_all (has_no_uid (placed bytes)) (all_events (placed bytes)) ≡ true)

-- What is gathered of each event and of each time zone is sound.
abbrev pub IsSoundComponent : PartedComponentSeen → Type 0
IsSoundComponent component = IfOk component.read IsSoundParsed

abbrev pub IsSoundParted : PartedFileSeen → Type 0
IsSoundParted parted = All IsSoundComponent parted.events × All IsSoundComponent parted.zones

-- LINES IN THEIR PLACES, as those of a file are, also where whole components are taken out or UIDs are made: each stands where the one before it leaves
-- off, no number falls, a component begins behind all lines before, and has no line before its BEGIN.
abbrev pub AreInPlace : ℕ → List Open → List Placed → Type 0
AreInPlace n path [] = Unit {0}
AreInPlace n path (line ∷ lines) =
    (line.path ≡ path) × (n ≤ line.number) × (is_begin line ≡ true → n < line.number) × (innermost path < line.number)
    × AreInPlace line.number (path_behind line) lines
