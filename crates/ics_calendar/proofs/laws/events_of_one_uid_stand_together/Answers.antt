use Rattle.ics_calendar.proofs.OneUid.{all-or-none}
use Rattle.ics_calendar.proofs.laws.events_of_one_uid_stand_together.Goals as goal

pub returns : goal.returns
returns c = λ files name file. all-or-none files name file
