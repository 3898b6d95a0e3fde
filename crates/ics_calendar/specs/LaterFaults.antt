-- Which faults the second round finds on a line, given the time zones of the file (RFC 5545, sections 3.2.19 and 3.8.2.2).
use Rattle.std.specs.Prelude.{ℕ, Bool, false, ◌&&◌, not, List, [], map, is_some, unwrap_or}
use Rattle.std.specs.List.{list_any}
use Rattle.ics_components.specs.declared.fault.FaultKind.{FaultKind}
use Rattle.ics_components.specs.declared.fault.FaultKind.TheVariants.{BadEnd, UnknownZone, BadZoneFile}
use Rattle.ics_components.specs.DateValues.{rdate_in, has_zoned}
use Rattle.ics_components.specs.Faults.{dates_said, reading_on, first_time}
use Rattle.ics_components.specs.declared.name.Name.TheVariants as name
use Rattle.ics_components.specs.PlacedLines.{Placed, params_of, in_event, calendar_of, ends_event}
use Rattle.ics_components.specs.Values.{zone_name}
use Rattle.ics_components.specs.SecondRound.{zone_named}
use Rattle.ics_calendar.specs.DeferredChecks.{KnownZones, ends_badly_later}

-- a property of an event with a stamp in a time zone, and whether its calendar has one of the name in its TZID
abbrev pub is_in_zone : Placed → Bool
is_in_zone line = in_event line && list_any has_zoned (map (rdate_in (zone_name (params_of line.content))) (dates_said (reading_on line)))

abbrev pub has_zone : KnownZones → Placed → Bool
has_zone known line = is_some (known.index (zone_named (calendar_of line.path) (zone_name (params_of line.content))))

-- the name in the TZID of a line
abbrev pub tzid_on : Placed → List ℕ
tzid_on line = unwrap_or (zone_name (params_of line.content)) []

-- a property of an event with a stamp in a time zone that its calendar does not define and no zone file gives
abbrev pub is_in_unknown_zone : KnownZones → Placed → Bool
is_in_unknown_zone known line = is_in_zone line && not (has_zone known line)

-- THE SECOND ROUND, of zones and instants, given the time zones of the file.
abbrev pub stands_later : KnownZones → FaultKind → List Placed → Placed → Bool
stands_later known BadEnd beside line =
    ends_event line && ends_badly_later known (calendar_of line.path) (first_time name.Dtstart beside) (first_time name.Dtend beside)
stands_later known UnknownZone beside line = is_in_unknown_zone known line && not (known.is_bad (tzid_on line))
stands_later known BadZoneFile beside line = is_in_unknown_zone known line && known.is_bad (tzid_on line)
stands_later known _ beside line = false
