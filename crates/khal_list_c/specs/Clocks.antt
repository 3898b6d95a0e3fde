-- The zone that a caller hands over, and the clock that gives the locals of a rule their instants.
use Rattle.std.specs.Prelude.{◌≡◌, ◌≢◌, ◌⊎◌, ℕ, ℤ, pos, ◌-ℤ◌, nat_le, List, [], length, slice_get, Bool, true, false, Option, Some, None, Result, Ok, Err}
use Rattle.std.specs.Prelude.{option_map, if◌then◌else◌}
use Rattle.std.specs.Option.{option_or}
use Rattle.ics_fields.specs.Locals.{year_number}
use Rattle.ics_file.specs.File.{FileSaid}
use Rattle.ics_components.specs.declared.fault.Fault.{Fault}
use Rattle.ics_calendar.specs.Files.{file_of}
use Rattle.ics_calendar.specs.GivenFiles.{files_by}
use Rattle.ics_zone.specs.ZoneFiles.{zone_file}
use Rattle.ics_zone.specs.ZoneSaid.{ZoneSaid, Always, ByFile, said_moment, zone_said}
use Rattle.khal_list_c.specs.declared.clock.Clock.{Clock}
use Rattle.khal_list_c.specs.declared.clock.Clock.TheVariants.{Unknown, Utc, InZone}

-- the most bytes of a file
abbrev pub most_bytes : ℕ
most_bytes = 16_777_216

abbrev pub first_zone : Result FileSaid Fault → Option ZoneSaid
first_zone (Ok file) = slice_get file.zones 0
first_zone (Err fault) = None

-- what the first VTIMEZONE of a calendar says, if the calendar has no fault
abbrev pub calendar_zone : List ℕ → Option ZoneSaid
calendar_zone bytes = first_zone (file_of (files_by []) bytes)

-- THE ZONE of these bytes: what a zone file says (RFC 9636) or, if they are none, a calendar's first VTIMEZONE.
abbrev pub zone_by : List ℕ → Option ZoneSaid
zone_by bytes = if nat_le (length bytes) most_bytes then option_or (option_map ByFile (zone_file bytes)) (calendar_zone bytes) else None

-- the zone that a clock is of
abbrev pub clock_said : Clock → Option ZoneSaid
clock_said Unknown = None
clock_said Utc = Some (Always (pos 0))
clock_said (InZone zone) = Some (zone_said zone)

-- the clock is that of the zone of these bytes
abbrev pub IsClockOf : List ℕ → Option ZoneSaid → Type 0
IsClockOf zone clock = (said : ZoneSaid) × (zone_by zone ≡ Some said) × (clock ≡ Some said)

-- UTC is the clock of a start in UTC. Otherwise it is that of the zone that is handed over, and there is none if no byte is.
abbrev pub IsClockBy : Bool → List ℕ → Option ZoneSaid → Type 0
IsClockBy true zone clock = clock ≡ Some (Always (pos 0))
IsClockBy false zone clock = ((zone ≡ []) × (clock ≡ None)) ⊎ ((zone ≢ []) × IsClockOf zone clock)

-- why there is no zone: 6 if the bytes say none, and 7 if an allocation failed
abbrev pub IsZoneFault : List ℕ → ℕ → Type 0
IsZoneFault zone n = ((n ≡ 6) × (zone_by zone ≡ None)) ⊎ (n ≡ 7)

-- the local 1970-01-01T00:00:00
abbrev pub epoch : ℕ
epoch = year_number 1_970

-- the instant of a local in a zone
abbrev pub instant_in : ZoneSaid → ℕ → ℤ
instant_in zone n = said_moment zone (pos n -ℤ pos epoch)
