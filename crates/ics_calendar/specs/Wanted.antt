-- THE TIME ZONES THAT A FILE WANTS: those that its stamps are in and that no VTIMEZONE of their calendar defines (RFC 5545, section 3.2.19).
use Rattle.std.specs.Prelude.{ℕ, List, [], ◌∷◌, map, filter, not}
use Rattle.std.specs.Str.{bytes_eq}
use Rattle.ics_calendar.specs.DeferredChecks.{KnownZones, with_files}
use Rattle.ics_calendar.specs.GivenFiles.{GivenFiles}
use Rattle.ics_calendar.specs.LaterFaults.{is_in_unknown_zone, tzid_on}
use Rattle.ics_components.specs.PlacedLines.{Placed}
use Rattle.ics_calendar.specs.Zones.{zones_on}

-- each name once, in the order of their first places
abbrev pub each_once : List (List ℕ) → List (List ℕ)
each_once [] = []
each_once (name ∷ names) = name ∷ filter (λ other. not (bytes_eq other name)) (each_once names)

-- the names in the TZIDs of the lines on which UnknownZone stands without zone files
abbrev pub unknown_names : List Placed → List (List ℕ)
unknown_names lines = map tzid_on (filter (is_in_unknown_zone (zones_on lines)) lines)

-- the time zones of the file, and those of the zone files for what it wants
abbrev pub zones_with : GivenFiles → List Placed → KnownZones
zones_with files lines = with_files (zones_on lines) files (each_once (unknown_names lines))
