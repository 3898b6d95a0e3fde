-- The events before the first fault of a file, as the first round has gathered them.
use Rattle.std.specs.Prelude.{List, []}
use Rattle.ics_components.specs.declared.parsed_file.CalendarEvent.{CalendarEvent}
use Rattle.ics_components.specs.declared.parsed_file.LineCheck.{LineCheck}

-- A FRONT: the events that are still to come of those before a fault, and the checks that they defer.
pub record FrontSeen : Type 0 where
  pub events : List CalendarEvent
  pub checks : List LineCheck

abbrev pub no_front : FrontSeen
no_front = record { events = []; checks = [] }
