use Rattle.ics_values.proofs.DateLemmas.{is_jiffs}
use Rattle.ics_values.proofs.laws.dates_of_the_calendar.Goals as goal

pub returns : goal.returns
returns c = is_jiffs
