-- The contents of a folder.
use Rattle.std.specs.Prelude.{List}
use Rattle.ics_file.specs.declared.events.FileEvents.{FileEvents}
use Rattle.ics_zone.specs.declared.display.Display.{Display}

-- the files in their order, and the zone in which they are shown
pub record Contents : Type 0 where
  pub files : List FileEvents
  pub display : Display
