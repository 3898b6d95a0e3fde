use Rattle.ics_series.proofs.WindowLemmas.{lists-under_way}
use Rattle.ics_series.proofs.laws.lists_under_way.Goals as goal

pub returns : goal.returns
returns c = lists-under_way
