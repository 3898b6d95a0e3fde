use Rattle.ics_values.proofs.StampLemmas.{second_kept}
use Rattle.ics_values.proofs.laws.times_of_a_day.Goals as goal

pub returns : goal.returns
returns c = second_kept
