use Rattle.ics_series.proofs.AheadLemmas.{most-of-masters}
use Rattle.ics_series.proofs.laws.most_of_masters.Goals as goal

pub returns : goal.returns
returns c = most-of-masters
