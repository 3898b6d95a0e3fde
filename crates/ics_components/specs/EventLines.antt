-- The events of a file wherever they stand, whose each is, which time zones it names, and in which files that is certain.
use Rattle.std.specs.Prelude.{ℕ, Bool, true, false, ◌&&◌, ◌||◌, not, ◌==◌, List, [], ◌∷◌, ◌++◌, filter, filter_map, map, take, drop, codes, Option, Some, None}
use Rattle.std.specs.Prelude.{is_none, if◌then◌else◌}
use Rattle.std.specs.Fmt.{decimal}
use Rattle.std.specs.List.{flat_map, list_all, list_any}
use Rattle.std.specs.Option.{option_and_then}
use Rattle.std.specs.Str.{bytes_eq}
use Rattle.ics_text.specs.Bytes.{begins as begins_with, is_empty, upper}
use Rattle.ics_text.specs.ContentLines.{Parts}
use Rattle.ics_values.specs.Digits.{is_digit}
use Rattle.ics_values.specs.Plain.{text_of}
use Rattle.ics_values.specs.Stamps.{is_local_form}
use Rattle.ics_components.specs.declared.fault.FaultKind.TheVariants.{BadNesting, TooDeep}
use Rattle.ics_components.specs.declared.name.Name.{Name}
use Rattle.ics_components.specs.declared.name.Name.TheVariants as name
use Rattle.ics_components.specs.Faults.{stands}
use Rattle.ics_components.specs.FirstFault.{no_open}
use Rattle.ics_components.specs.PlacedLines.{Placed, Open, all_named, begins, ends_event, in_calendar, in_event, is_named, lines_in, path_behind, value}
use Rattle.ics_components.specs.Values.{zone_name}

-- THE EVENTS of a file, by their BEGIN lines: the VEVENTs that are directly in a calendar, or in no component.
abbrev pub is_event : Placed → Bool
is_event line = (in_calendar line || no_open line.path) && begins (codes "VEVENT") line

abbrev pub all_events : List Placed → List Placed
all_events lines = filter is_event lines

-- what the lines of that name say as texts that stand directly in the component that begins on a line
abbrev pub texts_in : Name → List Placed → Placed → List (List ℕ)
texts_in n lines begin = map (λ line. text_of (value line)) (all_named n (lines_in begin.number lines))

-- THE UIDS OF AN EVENT, of which a sound one has one. An empty one is none.
abbrev pub uids_of : List Placed → Placed → List (List ℕ)
uids_of lines event = filter (λ uid. not (is_empty uid)) (texts_in name.Uid lines event)

abbrev pub has_uid : List Placed → List ℕ → Placed → Bool
has_uid lines uid event = list_any (bytes_eq uid) (uids_of lines event)

abbrev pub is_none_of : List (List ℕ) → Bool
is_none_of [] = true
is_none_of (text ∷ texts) = false

abbrev pub has_no_uid : List Placed → Placed → Bool
has_no_uid lines event = is_none_of (uids_of lines event)

-- A local time somewhere in a value, whatever else it says: eight digits, a T and six digits, and behind them neither a digit nor a Z.
abbrev pub goes_on : ℕ → Bool
goes_on b = is_digit b || upper b == 90

abbrev pub begins_with_local : List ℕ → Bool
begins_with_local value = is_local_form (take 15 value) && not (begins_with goes_on (drop 15 value))

abbrev pub has_local : List ℕ → Bool
has_local [] = false
has_local (b ∷ bs) = begins_with_local (b ∷ bs) || has_local bs

-- THE TIME ZONES THAT AN EVENT NAMES: those in the TZIDs beside its local times.
abbrev pub named_by : Parts → Option (List ℕ)
named_by parts = if has_local parts.value then zone_name parts.params else None

abbrev pub named_on : Placed → Option (List ℕ)
named_on line = option_and_then named_by line.content

abbrev pub zones_named : List Placed → Placed → List (List ℕ)
zones_named lines event = filter_map named_on (lines_in event.number lines)

-- WHOSE AN EVENT IS IS CERTAIN where it has a UID. Without one a line of it that is no content line may be its UID, and with a RECURRENCE-ID it may
-- replace an instance of any event.
abbrev pub is_certain : List Placed → Placed → Bool
is_certain lines event =
    not (has_no_uid lines event)
    || not (list_any (λ line. is_none line.content || is_named name.RecurrenceId line) (lines_in event.number lines))

-- a UID of an event, wherever that stands
abbrev pub in_any_event : List Open → Bool
in_any_event [] = false
in_any_event (c ∷ []) = bytes_eq c.name (codes "VEVENT")
in_any_event (c ∷ d ∷ []) = bytes_eq c.name (codes "VEVENT") && bytes_eq d.name (codes "VCALENDAR")
in_any_event (c ∷ d ∷ e ∷ cs) = false

abbrev pub is_uid : Placed → Bool
is_uid line = is_named name.Uid line && in_any_event line.path

-- A UID is followed by a line that is no content line, which may be the rest of it.
abbrev pub breaks_off : List Placed → Bool
breaks_off [] = false
breaks_off (line ∷ []) = false
breaks_off (line ∷ next ∷ lines) = (is_uid line && is_none next.content) || breaks_off (next ∷ lines)

-- what is open behind the last of some lines
abbrev pub path_at_end : List Open → List Placed → List Open
path_at_end path [] = path
path_at_end path (line ∷ lines) = path_at_end (path_behind line) lines

-- BEGIN and END match, and no component is too deep.
abbrev pub nests : Placed → Bool
nests line = not (stands BadNesting [] line || stands TooDeep [] line)

abbrev pub is_well_nested : List Placed → Bool
is_well_nested lines = no_open (path_at_end [] lines) && list_all nests lines

-- WHICH FILES HAVE PARTS: those in which it is certain where each event ends and whose it is.
abbrev pub has_parts : List Placed → Bool
has_parts lines = is_well_nested lines && not (breaks_off lines) && list_all (is_certain lines) (all_events lines)

-- WHERE NO EVENT OF A FILE HAS A UID, each gets one: the name of the file and the number of its END line. A backslash of a TEXT is written twice.
abbrev pub made_uid : List ℕ → ℕ → List ℕ
made_uid file number = file ++ (codes ": line " ++ decimal number)

abbrev pub as_text : List ℕ → List ℕ
as_text bytes = flat_map (λ b. if b == 92 then 92 ∷ 92 ∷ [] else b ∷ []) bytes

abbrev pub uid_line : List ℕ → Placed → Placed
uid_line file end = record end { content = Some (record { name = codes "UID"; params = []; value = as_text (made_uid file end.number) }) }

abbrev pub with_uid : List ℕ → Placed → List Placed
with_uid file line =
    if in_event line && is_named name.Uid line then []
    else if ends_event line then uid_line file line ∷ line ∷ []
    else line ∷ []

abbrev pub with_uids : List ℕ → List Placed → List Placed
with_uids file lines = if list_all (has_no_uid lines) (all_events lines) then flat_map (with_uid file) lines else lines
