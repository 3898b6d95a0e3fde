use Rattle.ics_calendar.proofs.FileLaws.{one-period}
use Rattle.ics_calendar.proofs.laws.one_period.Goals as goal

pub returns : goal.returns
returns c = one-period
