-- What is gathered of a file, as contracts see it.
use Rattle.std.specs.Prelude.{List}
use Rattle.ics_components.specs.declared.parsed_file.CalendarEvent.{CalendarEvent}
use Rattle.ics_components.specs.declared.parsed_file.CalendarZone.{CalendarZone}
use Rattle.ics_components.specs.declared.parsed_file.LineCheck.{LineCheck}

-- The time zones and events that have ended, and the checks of the second round, each in the order of the lines.
pub record ParsedFileSeen : Type 0 where
  pub zones : List CalendarZone
  pub events : List CalendarEvent
  pub checks : List LineCheck
