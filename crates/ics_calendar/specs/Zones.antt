-- The time zones of a file, and the one that a name stands for (RFC 5545, section 3.6.5).
use Rattle.std.specs.Prelude.{List, map, filter}
use Rattle.ics_zone.specs.ZoneSaid.{ZoneSaid}
use Rattle.ics_calendar.specs.DeferredChecks.{KnownZones, known_zones}
use Rattle.ics_components.specs.PlacedLines.{Placed}
use Rattle.ics_components.specs.Observances.{begins_zone, zone_by, zone_names}

-- The time zones of all calendars, in the order of their BEGIN lines.
abbrev pub zones_of : List Placed → List ZoneSaid
zones_of lines = map (λ l. ZoneSaid.ByObservances (zone_by lines l.number)) (filter begins_zone lines)

abbrev pub zones_on : List Placed → KnownZones
zones_on lines = known_zones (zone_names lines) (zones_of lines)
