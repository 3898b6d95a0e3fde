use Rattle.ics_series.proofs.WindowLemmas.{lists-starts}
use Rattle.ics_series.proofs.laws.lists_starts.Goals as goal

pub returns : goal.returns
returns c = lists-starts
