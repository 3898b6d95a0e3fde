-- WHAT IS KEPT OF THE PARTS of a file, by what is gathered of it event by event and time zone by time zone.
use Rattle.std.specs.Prelude.{◌≡◌, ℕ, ◌+◌, ◌-◌, ◌*◌, nat_lt, ◌&&◌, Bool, true, false, ◌==◌, List, [], ◌∷◌, ◌++◌, get_or, length, map, set}
use Rattle.std.specs.Prelude.{unwrap_or, Option, Some, None, Result, Ok}
use Rattle.std.specs.Prelude.{Err, if◌then◌else◌}
use Rattle.std.specs.List.{flat_map, fold, list_any}
use Rattle.std.specs.Option.{option_or}
use Rattle.std.specs.Str.{bytes_eq}
use Rattle.ics_values.specs.Digits.{is_digit}
use Rattle.ics_components.specs.declared.deferred_check.ZoneName.{ZoneName}
use Rattle.ics_components.specs.declared.fault.Fault.{Fault}
use Rattle.ics_components.specs.declared.parsed_file.CalendarZone.{CalendarZone}
use Rattle.ics_components.specs.ParsedFileSeen.{ParsedFileSeen}
use Rattle.ics_components.specs.PartFaults.{earlier}
use Rattle.ics_calendar.specs.DeferredChecks.{is_same}
use Rattle.ics_components.specs.Parted.{PartedComponentSeen, PartedFileSeen}
use Rattle.ics_calendar.specs.Settled.{known_in}
use Rattle.ics_calendar.specs.Inner.SoundParts.{PartsSeen, SoundEventSeen}
use Rattle.ics_calendar.specs.ZoneTables.{known_by}

-- the first fault of a calendar
abbrev pub calendar_fault : List (ℕ × Fault) → ℕ → Option Fault
calendar_fault [] calendar = None
calendar_fault (c ∷ cs) calendar = if c.0 == calendar then Some c.1 else calendar_fault cs calendar

-- the first fault of the time zones of one name, in the order of the lines
abbrev pub fault_read : Result ParsedFileSeen Fault → Option Fault
fault_read (Ok read) = None
fault_read (Err fault) = Some fault

abbrev pub has_name : ℕ → List (List ℕ) → ZoneName → Bool
has_name calendar names used = list_any (λ name. is_same used (record { calendar = calendar; name = name })) names

abbrev pub fault_under : PartedComponentSeen → ZoneName → Option Fault
fault_under zone used = if has_name zone.calendar zone.names used then fault_read zone.read else None

abbrev pub zone_fault : List PartedComponentSeen → ZoneName → Option Fault
zone_fault [] used = None
zone_fault (zone ∷ zones) used = option_or (fault_under zone used) (zone_fault zones used)

-- the sound time zones
abbrev pub zones_in : Result ParsedFileSeen Fault → List CalendarZone
zones_in (Ok read) = read.zones
zones_in (Err fault) = []

abbrev pub sound_zones : List PartedComponentSeen → List CalendarZone
sound_zones zones = flat_map (λ zone. zones_in zone.read) zones

-- the first fault of what an event needs: of its own lines, of its calendar, and of the time zones that it names
abbrev pub fault_beside : PartedFileSeen → ℕ → List (List ℕ) → Option Fault
fault_beside parted calendar names =
    fold (λ first name. earlier first (zone_fault parted.zones (record { calendar = calendar; name = name }))) (calendar_fault parted.calendars calendar) names

abbrev pub fault_needed : PartedFileSeen → PartedComponentSeen → Option Fault
fault_needed parted event = earlier (fault_read event.read) (fault_beside parted event.calendar event.zones)

-- THE KEYS of an event: its UIDs, of which a sound one has one, or one of its own that is no UID.
abbrev pub keys_of : List (List ℕ) → List (Option (List ℕ))
keys_of [] = None ∷ []
keys_of (uid ∷ uids) = map (λ uid. Some uid) (uid ∷ uids)

abbrev pub is_key : List ℕ → Option (List ℕ) → Bool
is_key uid None = false
is_key uid (Some other) = bytes_eq uid other

-- THE NUMBER OF A PART is the place of its key among those of all events, the first where it is a UID.
abbrev pub place_from : ℕ → List (Option (List ℕ)) → List ℕ → Option ℕ
place_from place [] uid = None
place_from place (key ∷ keys) uid = if is_key uid key then Some place else place_from (place + 1) keys uid

abbrev pub number_of : List (Option (List ℕ)) → Option (List ℕ) → ℕ
number_of before None = length before
number_of before (Some uid) = unwrap_or (place_from 0 before uid) (length before)

-- the first faults of the parts with one more of one part
abbrev pub least_at : Option Fault → List (Option Fault) → ℕ → List (Option Fault)
least_at fault faults part = set faults part (earlier (get_or faults part None) fault)

-- The keys before, the first faults of their parts, and the number of the part of the last.
pub record Numbered : Type 0 where
  pub keys : List (Option (List ℕ))
  pub faults : List (Option Fault)
  pub part : ℕ

abbrev pub with_key : Option Fault → Numbered → Option (List ℕ) → Numbered
with_key fault had key = record {
  keys = had.keys ++ key ∷ [];
  faults = least_at fault (had.faults ++ None ∷ []) (number_of had.keys key);
  part = number_of had.keys key;
}

-- WHAT IS KEPT of the events, one after the other.
pub record Labelled : Type 0 where
  pub numbered : Numbered
  pub events : List SoundEventSeen

abbrev pub nothing_labelled : Labelled
nothing_labelled = record { numbered = record { keys = []; faults = []; part = 0 }; events = [] }

abbrev pub sound_in : ℕ → PartedComponentSeen → Result ParsedFileSeen Fault → List SoundEventSeen
sound_in part event (Ok read) = record { part = part; calendar = event.calendar; zones = event.zones; read = read } ∷ []
sound_in part event (Err fault) = []

abbrev pub numbered_with : Option Fault → Numbered → List (List ℕ) → Numbered
numbered_with fault had uids = fold (with_key fault) (record had { part = 0 }) (keys_of uids)

abbrev pub with_event : (PartedComponentSeen → Option Fault) → Labelled → PartedComponentSeen → Labelled
with_event needed had event =
    let numbered : Numbered = numbered_with (needed event) had.numbered event.uids in
    record { numbered = numbered; events = had.events ++ sound_in numbered.part event event.read }

abbrev pub labelled : (PartedComponentSeen → Option Fault) → List PartedComponentSeen → Labelled
labelled needed events = fold (with_event needed) nothing_labelled events

-- AN EVENT that is alone in its part is not searched for by its UIDs.
abbrev pub searched : Bool → PartedComponentSeen → PartedComponentSeen
searched is_alone event = record event { uids = if is_alone then [] else event.uids }

-- Each is alone, where each has one UID, and the numbers at the ends of these rise, as those of made ones do.
abbrev pub number_with : ℕ → ℕ → ℕ
number_with number byte = if is_digit byte && nat_lt number 1_000_000_000 then number * 10 + (byte - 48) else 0

abbrev pub number_at_end : List ℕ → ℕ
number_at_end text = fold number_with 0 text

abbrev pub own_number : List (List ℕ) → Option ℕ
own_number uids = if length uids == 1 then Some (number_at_end (get_or uids 0 [])) else None

abbrev pub is_above : ℕ → Option ℕ → Bool
is_above last None = false
is_above last (Some number) = nat_lt last number

abbrev pub rise_from : ℕ → List PartedComponentSeen → Bool
rise_from last [] = true
rise_from last (event ∷ events) = is_above last (own_number event.uids) && rise_from (unwrap_or (own_number event.uids) 0) events

-- the first fault of the rest: of the time zones, and of the lines of no event and no time zone
abbrev pub fault_of_rest : PartedFileSeen → Option Fault
fault_of_rest parted = fold (λ first zone. earlier first (fault_read zone.read)) parted.outside parted.zones

-- WHAT IS KEPT of a file: its sound time zones, its sound events with the numbers of their parts, the first fault of each part, and that of the rest.
pub record AreRead (parted : PartedFileSeen) (parts : PartsSeen) : Type 0 where
  pub zones : parts.zones ≡ sound_zones parted.zones
  pub events : parts.events ≡ (labelled (fault_needed parted) parted.events).events
  pub faults : parts.faults ≡ (labelled (fault_needed parted) parted.events).numbered.faults
  pub rest : parts.rest ≡ fault_of_rest parted
  pub known : known_by parts.table ≡ known_in (sound_zones parted.zones)
