-- FILES OF WHOSE EVENTS SOME TEXTS ARE KEPT.
use Rattle.std.specs.Prelude.{map}
use Rattle.ics_file.specs.File.{FileSaid, FileSeen}
use Rattle.ics_event.specs.Kept.{kept_event, KeptTexts}

-- what a file says, and a file that has been read
abbrev pub kept_said : KeptTexts → FileSaid → FileSaid
kept_said keep file = record file { events = map (kept_event keep) file.events }

abbrev pub kept_seen : KeptTexts → FileSeen → FileSeen
kept_seen keep file = record file { events = map (kept_event keep) file.events }
