-- The words in which the parts of a file are told, between its lines and what is kept of them.
use Rattle.std.specs.Prelude.{Bool, List, filter}
use Rattle.std.specs.List.{flat_map, list_any}
use Rattle.ics_components.specs.declared.deferred_check.ZoneName.{ZoneName}
use Rattle.ics_components.specs.declared.parsed_file.CalendarZone.{CalendarZone}
use Rattle.ics_components.specs.EventLines.{zones_named}
use Rattle.ics_components.specs.Observances.{begins_zone}
use Rattle.ics_components.specs.Parted.{component_seen}
use Rattle.ics_components.specs.PlacedLines.{Placed, innermost}
use Rattle.ics_calendar.specs.DeferredChecks.{is_same}
use Rattle.ics_calendar.specs.Parts.{Part}
use Rattle.ics_calendar.specs.Inner.PartsRead.{zones_in}
use Rattle.ics_calendar.proofs.PartFirst.{is_zone_for}

-- an event names a time zone of its calendar
abbrev pub names : List Placed → ZoneName → Placed → Bool
names ls used event = list_any (λ zone. is_same used (record { calendar = innermost event.path; name = zone })) (zones_named ls event)

-- the time zones of a part
abbrev pub own_zones : List Placed → Part → List CalendarZone
own_zones ls part = flat_map (λ z. zones_in (component_seen ls z).read) (filter (is_zone_for ls part) (filter begins_zone ls))
