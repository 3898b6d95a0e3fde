use Rattle.ics_calendar.proofs.PartLaws.{first-named}
use Rattle.ics_calendar.proofs.laws.first_faults_are_named.Goals as goal

pub returns : goal.returns
returns c = first-named
