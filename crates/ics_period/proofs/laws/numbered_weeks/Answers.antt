use Rattle.ics_period.proofs.WeekLemmas.{week_fourth, week_first, week_next}
use Rattle.ics_period.proofs.laws.numbered_weeks.Goals as goal

pub returns : goal.returns
returns c = record { fourth = week_fourth; first = week_first; next = week_next }
