-- What a file is by what is gathered of it, where the first round finds nothing.
use Rattle.std.specs.Prelude.{◌≡◌, ℕ, List, [], ◌∷◌, Option, None, map, filter_map, Result}
use Rattle.ics_zone.specs.ZoneSaid.{ZoneSaid}
use Rattle.ics_components.specs.declared.parsed_file.CalendarEvent.{CalendarEvent}
use Rattle.ics_components.specs.declared.parsed_file.CalendarZone.{CalendarZone}
use Rattle.ics_components.specs.declared.parsed_file.LineCheck.{LineCheck}
use Rattle.ics_components.specs.declared.deferred_check.ZoneName.{ZoneName}
use Rattle.ics_components.specs.declared.fault.Fault.{Fault}
use Rattle.ics_components.specs.Sound.{IsSoundEvent}
use Rattle.ics_components.specs.FirstFault.{found}
use Rattle.ics_event.specs.Event.{EventSeen}
use Rattle.ics_file.specs.File.{FileSaid}
use Rattle.ics_calendar.specs.DeferredChecks.{KnownZones, known_zones, with_files, judged, unknown_in}
use Rattle.ics_calendar.specs.Files.{UnresolvedSaid, decide}
use Rattle.ics_calendar.specs.Events.{event_of}
use Rattle.ics_calendar.specs.Wanted.{each_once}

-- the time zones that have ended
abbrev pub known_in : List CalendarZone → KnownZones
known_in zones = known_zones (map (λ z. z.name) zones) (map (λ z. ZoneSaid.ByObservances z.observances) zones)

-- the first of the deferred checks that finds a fault
abbrev pub first_judged : KnownZones → List LineCheck → Option Fault
first_judged known [] = None
first_judged known (w ∷ ws) = found w.line (judged known w.check) (first_judged known ws)

-- An event that no fault of either round stands on.
abbrev pub IsReady : KnownZones → CalendarEvent → Type 0
IsReady known event = IsSoundEvent (λ check. judged known check ≡ None) event.calendar event.fields

-- the event, given the index of the zone that a name stands for
abbrev pub event_in : (ZoneName → Option ℕ) → CalendarEvent → EventSeen
event_in index event = event_of index event.calendar event.fields

-- the names of the time zones that are to be known and are not, in the order of the checks
abbrev pub all_unknown : (ZoneName → Option ℕ) → List LineCheck → List (List ℕ)
all_unknown index checks = filter_map (λ w. unknown_in index w.check) checks

-- WHAT THE FILE IS, where the first round finds nothing.
abbrev pub settled_by : KnownZones → List CalendarEvent → List LineCheck → Result FileSaid Fault
settled_by known events checks = decide None (first_judged known checks) (record { zones = known.zones; events = map (event_in known.index) events })

-- The unresolved file of the file, given the zones of its VTIMEZONEs: what it wants, and what it is with zone files.
abbrev pub unresolved_by : KnownZones → List CalendarEvent → List LineCheck → UnresolvedSaid
unresolved_by known events checks =
    let names : List (List ℕ) = each_once (all_unknown known.index checks) in
    record { wants = names; says = λ files. settled_by (with_files known files names) events checks }
