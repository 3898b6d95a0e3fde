use Rattle.ics_calendar.proofs.Whole.{is-file, file-is}
use Rattle.ics_calendar.proofs.laws.files_are_one_thing.Goals as goal

pub returns : goal.returns
returns c = record { is = is-file; only = file-is }
