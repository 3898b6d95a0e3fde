use Rattle.ics_calendar.proofs.FileLaws.{look-back}
use Rattle.ics_calendar.proofs.laws.faults_look_back.Goals as goal

pub returns : goal.returns
returns c = look-back
