use Rattle.ics_series.proofs.OccursLemmas.{one-recurrence}
use Rattle.ics_series.proofs.laws.one_recurrence.Goals as goal

pub returns : goal.returns
returns c = one-recurrence
