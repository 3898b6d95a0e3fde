-- One pass over the lines of a file that gathers it event by event and time zone by time zone.
-- These are the words of the pass. What it gathers of a file stands in Parted, and the proofs show that they agree.
use Rattle.std.specs.Prelude.{◌≡◌, ℕ, Bool, true, false, ◌&&◌, ◌||◌, not, ◌==◌, List, [], ◌∷◌, ◌++◌, codes, drop, filter, Option, Some, None, Result, is_none}
use Rattle.std.specs.Prelude.{if◌then◌else◌}
use Rattle.std.specs.List.{list_all}
use Rattle.std.specs.Option.{option_or, option_to_list}
use Rattle.ics_text.specs.Bytes.{is_empty}
use Rattle.ics_text.specs.ContentLines.{Parts}
use Rattle.ics_values.specs.Plain.{text_of}
use Rattle.ics_components.specs.declared.frame.Frame.{Frame}
use Rattle.ics_components.specs.declared.fault.Fault.{Fault}
use Rattle.ics_components.specs.declared.name.Name.{Name}
use Rattle.ics_components.specs.declared.name.Name.TheVariants as name
use Rattle.ics_components.specs.EventLines.{is_event, is_none_of, is_uid, named_on, nests}
use Rattle.ics_components.specs.FirstFault.{fault_at_end, no_open}
use Rattle.ics_components.specs.ParsedFileSeen.{ParsedFileSeen}
use Rattle.ics_components.specs.ParsedFiles.{nothing_parsed}
use Rattle.ics_components.specs.Parted.{LinesRead, Reads, Broken, PartedComponentSeen, PartedFileSeen, begins_part, fault_there, frames_around}
use Rattle.ics_components.specs.Parted.{gathered_in, lines_with, read_on, version_faults}
use Rattle.ics_components.specs.PlacedLines.{Placed, Open, in_event, innermost, is_end, is_named, path_behind, value}

-- a line where these components are open
abbrev pub here : ℕ → Option Parts → List Open → Placed
here number content path = record { number = number; content = content; path = path }

-- what a reader has read
abbrev pub read_seen : Option Fault → List Frame → ParsedFileSeen → LinesRead
read_seen (Some fault) frames had = Broken fault
read_seen None frames had = Reads frames had

-- WHAT IS NOTED of the event or the time zone that is open, by the lines directly in it.
pub record NotesSeen : Type 0 where
  pub begun : ℕ
  pub calendar : ℕ
  pub is_event : Bool
  pub uids : List (List ℕ)
  pub names : List (List ℕ)
  pub zones : List (List ℕ)
  pub is_doubtful : Bool

abbrev pub texts_on : Name → Placed → List (List ℕ)
texts_on n line = if is_named n line then text_of (value line) ∷ [] else []

abbrev pub uids_on : Placed → List (List ℕ)
uids_on line = filter (λ uid. not (is_empty uid)) (texts_on name.Uid line)

abbrev pub is_doubt : Placed → Bool
is_doubt line = is_none line.content || is_named name.RecurrenceId line

abbrev pub noted : Placed → NotesSeen → NotesSeen
noted line notes = record notes {
  uids = notes.uids ++ uids_on line;
  names = notes.names ++ texts_on name.Tzid line;
  zones = notes.zones ++ option_to_list (named_on line);
  is_doubtful = notes.is_doubtful || is_doubt line;
}

abbrev pub noted_directly : Placed → NotesSeen → NotesSeen
noted_directly line notes = if innermost line.path == notes.begun then noted line notes else notes

-- THE EVENT OR THE TIME ZONE that is open, and what its lines are read to.
pub record PartSeen : Type 0 where
  pub notes : NotesSeen
  pub read : LinesRead

abbrev pub notes_begun : ℕ → ℕ → Bool → NotesSeen
notes_begun begun calendar is_event = record {
  begun = begun;
  calendar = calendar;
  is_event = is_event;
  uids = [];
  names = [];
  zones = [];
  is_doubtful = false;
}

abbrev pub part_begun : Placed → Option PartSeen
part_begun line =
    if begins_part line then Some (record {
      notes = notes_begun line.number (innermost line.path) (is_event line);
      read = Reads (frames_around line.path) nothing_parsed;
    })
    else None

abbrev pub with_line : Placed → PartSeen → PartSeen
with_line line part = record { notes = noted_directly line part.notes; read = read_on line.number line.content part.read }

abbrev pub closes_part : Placed → PartSeen → Bool
closes_part line part = is_end line && innermost line.path == part.notes.begun

-- a part of which that is gathered
abbrev pub closed_as : NotesSeen → Result ParsedFileSeen Fault → PartedComponentSeen
closed_as notes read = record {
  calendar = notes.calendar;
  uids = notes.uids;
  is_certain = not (is_none_of notes.uids) || not notes.is_doubtful;
  names = notes.names;
  zones = notes.zones;
  read = read;
}

abbrev pub part_closed : PartSeen → PartedComponentSeen
part_closed part = closed_as part.notes (gathered_in part.read)

abbrev pub and_closed : PartSeen → PartedFileSeen → PartedFileSeen
and_closed part had =
    if part.notes.is_event then record had { events = had.events ++ part_closed part ∷ [] }
    else record had { zones = had.zones ++ part_closed part ∷ [] }

abbrev pub and_outside : Placed → PartedFileSeen → PartedFileSeen
and_outside line had = record had { calendars = had.calendars ++ version_faults line; outside = option_or had.outside (fault_there line) }

-- THE ROUND BEHIND SOME LINES: the components that are open, the event or the time zone among them, whether the last line is a UID of an event, whether one
-- of them is of no event and no time zone, and what is gathered.
pub record RoundSeen : Type 0 where
  pub path : List Open
  pub part : Option PartSeen
  pub is_behind_uid : Bool
  pub has_outside : Bool
  pub parted : PartedFileSeen

abbrev pub parted_nothing : PartedFileSeen
parted_nothing = record { events = []; zones = []; calendars = []; outside = None }

abbrev pub round_begun : RoundSeen
round_begun = record { path = []; part = None; is_behind_uid = false; has_outside = false; parted = parted_nothing }

abbrev pub closed_by : Option PartSeen → RoundSeen → RoundSeen
closed_by None round = round
closed_by (Some part) round = record round { part = None; parted = and_closed part round.parted }

-- behind a line of the event or the time zone that is open, or of none
abbrev pub part_left : Bool → PartSeen → Option PartSeen
part_left true part = None
part_left false part = Some part

abbrev pub part_behind : Option PartSeen → Placed → Option PartSeen
part_behind None line = None
part_behind (Some part) line = part_left (closes_part line part) (with_line line part)

abbrev pub parted_behind : Option PartSeen → Placed → PartedFileSeen → PartedFileSeen
parted_behind None line had = and_outside line had
parted_behind (Some part) line had = if closes_part line part then and_closed (with_line line part) had else had

abbrev pub outside_behind : Option PartSeen → Bool → Bool
outside_behind None had = true
outside_behind (Some part) had = had

abbrev pub by_part : Option PartSeen → Placed → RoundSeen → RoundSeen
by_part part line round = record round {
  part = part_behind part line;
  has_outside = outside_behind part round.has_outside;
  parted = parted_behind part line round.parted;
}

abbrev pub round_behind : Placed → RoundSeen → RoundSeen
round_behind line round =
    let taken : RoundSeen = by_part (option_or round.part (part_begun line)) line round in
    record taken { path = path_behind line; is_behind_uid = is_uid line }

-- whether a file may still have parts behind a line
abbrev pub goes_on : Placed → RoundSeen → Bool
goes_on line round = nests line && not (round.is_behind_uid && is_none line.content)

abbrev pub Steps : Bool → Placed → RoundSeen → RoundSeen → Type 0
Steps true line round behind = (goes_on line round ≡ true) × (behind ≡ round_behind line round)
Steps false line round behind = goes_on line round ≡ false

-- WHERE THE LINES END. A file of events alone is no calendar without them.
abbrev pub has_zones : List PartedComponentSeen → Bool
has_zones [] = false
has_zones (zone ∷ zones) = true

abbrev pub ended : Bool → PartedFileSeen → PartedFileSeen
ended has_outside had = if has_outside || has_zones had.zones then had else record had { outside = fault_at_end [] }

-- THE ROUND over the lines that are left.
abbrev pub round_over : RoundSeen → List Placed → Option PartedFileSeen
round_over round [] = if no_open round.path then Some (ended round.has_outside round.parted) else None
round_over round (line ∷ lines) = if goes_on line round then round_over (round_behind line round) lines else None

abbrev pub Ends : Bool → PartedFileSeen → Option PartedFileSeen → Type 0
Ends true parted said = said ≡ Some parted
Ends false parted said = said ≡ None

-- a UID of an event of a calendar
abbrev pub is_event_uid : Placed → Bool
is_event_uid line = in_event line && is_named name.Uid line

-- a line, or what stands in its place
abbrev pub GoesOver : Bool → Option (List ℕ) → Placed → RoundSeen → RoundSeen → Type 0
GoesOver true file line round behind =
    (behind.path ≡ path_behind line) × ((rest : List Placed) → round_over round (lines_with file (line ∷ rest)) ≡ round_over behind (lines_with file rest))
GoesOver false file line round behind = (rest : List Placed) → round_over round (lines_with file (line ∷ rest)) ≡ None

-- a line of a UID
abbrev pub IsUidLine : List ℕ → Type 0
IsUidLine line = line ≡ codes "UID:" ++ drop 4 line

-- what is gathered, if it is certain whose each event is, or each gets a UID
abbrev pub if_sure : Option (List ℕ) → PartedFileSeen → Option PartedFileSeen
if_sure None parted = if list_all (λ event. event.is_certain) parted.events then Some parted else None
if_sure (Some file) parted = Some parted
