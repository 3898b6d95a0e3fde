use Rattle.ics_calendar.proofs.FileLaws.{zones-alone, no-bad-file}
use Rattle.ics_calendar.proofs.laws.without_zone_files.Goals as goal

pub returns : goal.returns
returns c = record { zones = zones-alone; faults = no-bad-file }
