use Rattle.ics_period.proofs.WeekLemmas.{weeks_high, weeks_there, last_week}
use Rattle.ics_period.proofs.laws.weeks_of_a_year.Goals as goal

pub returns : goal.returns
returns c = record { high = weeks_high; there = λ f. (last_week f, weeks_there f) }
