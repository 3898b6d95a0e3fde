-- What is kept of the parts of a file before zone files are given, what they want, and what they give with zone files.
use Rattle.std.specs.Prelude.{◌≡◌, ℕ, Bool, true, false, ◌&&◌, ◌==◌, List, [], ◌∷◌, ◌++◌, filter, slice_get, is_none, Option, Some, None, if◌then◌else◌}
use Rattle.std.specs.List.{All, flat_map, list_any}
use Rattle.ics_components.specs.declared.deferred_check.ZoneName.{ZoneName}
use Rattle.ics_components.specs.declared.fault.Fault.{Fault}
use Rattle.ics_components.specs.declared.parsed_file.CalendarZone.{CalendarZone}
use Rattle.ics_components.specs.declared.parsed_file.LineCheck.{LineCheck}
use Rattle.ics_components.specs.ParsedFileSeen.{ParsedFileSeen}
use Rattle.ics_components.specs.ParsedFiles.{IsSoundParsed}
use Rattle.ics_components.specs.Sound.{IsSoundZone}
use Rattle.ics_file.specs.File.{FileSaid}
use Rattle.ics_calendar.specs.declared.zone_table.ZoneTable.{ZoneTable}
use Rattle.ics_calendar.specs.DeferredChecks.{KnownZones, is_same, with_files}
use Rattle.ics_calendar.specs.GivenFiles.{GivenFiles}
use Rattle.ics_calendar.specs.Parts.{Given, in_order, said_in}
use Rattle.ics_calendar.specs.Settled.{all_unknown, first_judged, known_in, unresolved_by}
use Rattle.ics_calendar.specs.Wanted.{each_once}
use Rattle.ics_calendar.specs.ZoneTables.{known_by}

-- a sound event: the number of its part, its calendar, the time zones that it names, and what is gathered of its lines
pub record SoundEventSeen : Type 0 where
  pub part : ℕ
  pub calendar : ℕ
  pub zones : List (List ℕ)
  pub read : ParsedFileSeen

-- the sound time zones and events, each event with the number of its part, and the first fault of each part in the first round, and that of the rest
pub record PartsSeen : Type 0 where
  pub table : ZoneTable
  pub zones : List CalendarZone
  pub events : List SoundEventSeen
  pub faults : List (Option Fault)
  pub rest : Option Fault

-- no fault stands for that part
abbrev pub is_no_fault : Option (Option Fault) → Bool
is_no_fault (Some None) = true
is_no_fault _ = false

abbrev pub is_sound : List (Option Fault) → ℕ → Bool
is_sound faults part = is_no_fault (slice_get faults part)

-- the events of some parts, and the checks that they leave to the second round
abbrev pub of_parts : (ℕ → Bool) → List SoundEventSeen → List SoundEventSeen
of_parts chosen events = filter (λ sound. chosen sound.part) events

abbrev pub checks_of : List SoundEventSeen → List LineCheck
checks_of events = flat_map (λ sound. sound.read.checks) events

-- the names that sound parts want, and the first fault of a part in the second round
abbrev pub wanted_by : (ZoneName → Option ℕ) → List (Option Fault) → List SoundEventSeen → List (List ℕ)
wanted_by index faults events = each_once (all_unknown index (checks_of (of_parts (is_sound faults) events)))

abbrev pub later_of : KnownZones → List SoundEventSeen → ℕ → Option Fault
later_of known events part = first_judged known (checks_of (of_parts (λ other. other == part) events))

-- the time zones that some of the events name
abbrev pub names_zone : ZoneName → SoundEventSeen → Bool
names_zone name sound = list_any (λ zone. is_same name (record { calendar = sound.calendar; name = zone })) sound.zones

abbrev pub zones_for : List SoundEventSeen → List CalendarZone → List CalendarZone
zones_for events zones = filter (λ zone. list_any (names_zone zone.name) events) zones

-- what is gathered of some events and time zones
abbrev pub gathered_of : List SoundEventSeen → List CalendarZone → ParsedFileSeen
gathered_of events zones = record { zones = zones; events = flat_map (λ sound. sound.read.events) events; checks = checks_of events }

-- what it says with zone files, or nothing where a fault stands in it
abbrev pub said_with : ParsedFileSeen → GivenFiles → FileSaid
said_with parsed files = said_in ((unresolved_by (known_in parsed.zones) parsed.events parsed.checks).says files)

-- the events of the accepted parts
abbrev pub accepted_of : KnownZones → List (Option Fault) → List SoundEventSeen → List SoundEventSeen
accepted_of known faults events = of_parts (λ part. is_sound faults part && is_none (later_of known events part)) events

-- the faults of the second round, each where an event has it in its part
abbrev pub listed : Option Fault → List Fault
listed None = []
listed (Some fault) = fault ∷ []

abbrev pub later_named : KnownZones → List (Option Fault) → List SoundEventSeen → ℕ → Option Fault
later_named known faults events part = if is_sound faults part then later_of known events part else None

abbrev pub later_faults : KnownZones → List (Option Fault) → List SoundEventSeen → List Fault
later_faults known faults events = flat_map (λ sound. listed (later_named known faults events sound.part)) events

-- the same by a list of the first faults of the parts in the second round
abbrev pub fault_there : Option (Option Fault) → Option Fault
fault_there None = None
fault_there (Some fault) = fault

abbrev pub named_at : List (Option Fault) → List (Option Fault) → ℕ → Option Fault
named_at faults later part = if is_sound faults part then fault_there (slice_get later part) else None

abbrev pub faults_at : List (Option Fault) → List (Option Fault) → SoundEventSeen → List Fault
faults_at faults later sound = listed (named_at faults later sound.part)

-- WHAT THE PARTS WANT, and WHAT THEY GIVE with zone files, given the first fault of their file.
pub record PartsSaid : Type 0 where
  pub wants : List (List ℕ)
  pub gives : GivenFiles → Fault → Given

abbrev pub given_by_parts : KnownZones → PartsSeen → GivenFiles → Fault → Given
given_by_parts known parts files fault =
    let events : List SoundEventSeen = accepted_of known parts.faults parts.events in
    record {
      said = said_with (gathered_of events (zones_for events parts.zones)) files;
      faults = in_order (fault ∷ (listed parts.rest ++ (flat_map listed parts.faults ++ later_faults known parts.faults parts.events)));
    }

abbrev pub parts_said : PartsSeen → PartsSaid
parts_said parts =
    let names : List (List ℕ) = wanted_by (known_by parts.table).index parts.faults parts.events in
    record { wants = names; gives = λ files fault. given_by_parts (with_files (known_by parts.table) files names) parts files fault }

-- What is kept is sound, and the table is that of the time zones.
pub record AreSoundParts (table : ZoneTable) (zones : List CalendarZone) (events : List SoundEventSeen) : Type 0 where
  pub known : known_by table ≡ known_in zones
  pub sound_zones : All (λ z. IsSoundZone z.observances) zones
  pub sound_events : All (λ sound. IsSoundParsed sound.read) events
