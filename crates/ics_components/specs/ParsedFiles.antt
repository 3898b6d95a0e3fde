-- What is gathered of a file, line by line, and what holds of it where the first round finds nothing.
use Rattle.std.specs.Prelude.{ℕ, List, [], ◌∷◌, ◌++◌, Option, Some, None, map}
use Rattle.std.specs.List.{All, Contains}
use Rattle.ics_fields.specs.Days.{IsStampDay}
use Rattle.ics_components.specs.declared.deferred_check.DeferredCheck.{DeferredCheck}
use Rattle.ics_components.specs.declared.deferred_check.DeferredCheck.TheVariants.{Ends}
use Rattle.ics_components.specs.declared.deferred_check.Instant.{Instant}
use Rattle.ics_components.specs.declared.deferred_check.Instant.TheVariants.{Utc, Zoned}
use Rattle.ics_components.specs.declared.parsed_file.ClosedComponent.{ClosedComponent}
use Rattle.ics_components.specs.declared.parsed_file.ClosedComponent.TheVariants as ended
use Rattle.ics_components.specs.declared.parsed_file.CalendarEvent.{CalendarEvent}
use Rattle.ics_components.specs.declared.parsed_file.CalendarZone.{CalendarZone}
use Rattle.ics_components.specs.declared.parsed_file.LineCheck.{LineCheck}
use Rattle.ics_components.specs.declared.parsed_file.LineResult.{LineResult}
use Rattle.ics_components.specs.ParsedFileSeen.{ParsedFileSeen}
use Rattle.ics_components.specs.Sound.{IsSoundEvent, IsSoundZone}

abbrev pub nothing_parsed : ParsedFileSeen
nothing_parsed = record { zones = []; events = []; checks = [] }

-- what ends on a line, if it is of the kind
abbrev pub zones_of_end : ClosedComponent → List CalendarZone
zones_of_end (ended.Zone zone) = zone ∷ []
zones_of_end _ = []

abbrev pub events_of_end : ClosedComponent → List CalendarEvent
events_of_end (ended.Event event) = event ∷ []
events_of_end _ = []

-- a deferred check, with the number of its line
abbrev pub checks_of : ℕ → Option DeferredCheck → List LineCheck
checks_of number None = []
checks_of number (Some check) = record { line = number; check = check } ∷ []

-- WHAT IS GATHERED with what ends on a line more, and the check of that line.
abbrev pub and_ended : ClosedComponent → ParsedFileSeen → ParsedFileSeen
and_ended e had = record had { zones = had.zones ++ zones_of_end e; events = had.events ++ events_of_end e }

abbrev pub and_line : ℕ → LineResult → ParsedFileSeen → ParsedFileSeen
and_line number p had = record (and_ended p.ended had) { checks = had.checks ++ checks_of number p.check }

-- What is to be read in a time zone lies in the years of stamps.
abbrev pub IsSoundInstant : Instant → Type 0
IsSoundInstant (Utc local) = Unit {0}
IsSoundInstant (Zoned local name) = IsStampDay local.day

abbrev pub IsSoundCheck : DeferredCheck → Type 0
IsSoundCheck (Ends start end) = IsSoundInstant start × IsSoundInstant end
IsSoundCheck _ = Unit {0}

-- The second round checks the zones of each event's stamps, and its end against its start.
pub record IsSoundParsed (g : ParsedFileSeen) : Type 0 where
  pub zones : All (λ z. IsSoundZone z.observances) g.zones
  pub events : All (λ event. IsSoundEvent (Contains (map (λ w. w.check) g.checks)) event.calendar event.fields) g.events
  pub sound : All (λ w. IsSoundCheck w.check) g.checks
