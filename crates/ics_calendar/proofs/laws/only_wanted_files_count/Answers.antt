use Rattle.ics_calendar.proofs.FileLaws.{only-wanted}
use Rattle.ics_calendar.proofs.laws.only_wanted_files_count.Goals as goal

pub returns : goal.returns
returns c = only-wanted
