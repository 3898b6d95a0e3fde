use Rattle.ics_calendar.proofs.PartLaws.{none-lost}
use Rattle.ics_calendar.proofs.laws.events_are_given_or_named.Goals as goal

pub returns : goal.returns
returns c = none-lost
