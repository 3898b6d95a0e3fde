-- What contracts see of a window text that was read.
use Rattle.std.specs.Prelude.{◌≤◌}
use Rattle.jiff_core.specs.Calendar.{IsEpochDay}
use Rattle.ics_fields.specs.Locals.{local_seconds}
use Rattle.khal_words.specs.WindowTexts.{most_days, Named}
use Rattle.khal_words.specs.declared.window_text.WindowText.{WindowText}
use Rattle.khal_words.specs.declared.window_text.WindowText.TheVariants.{Day, Local, Days}

abbrev pub named_by : WindowText → Named
named_by (Day day) = Named.Day day
named_by (Local local) = Named.Local (local_seconds local)
named_by (Days number) = Named.Days number

-- its day is one that the calendar has, and a number of days is within its bounds
abbrev pub IsInCalendar : WindowText → Type 0
IsInCalendar (Day day) = IsEpochDay day
IsInCalendar (Local local) = IsEpochDay local.day
IsInCalendar (Days number) = number ≤ most_days
