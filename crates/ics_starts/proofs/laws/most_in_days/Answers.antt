use Rattle.ics_starts.proofs.RawLemmas.{most-in-days}
use Rattle.ics_starts.proofs.laws.most_in_days.Goals as goal

pub returns : goal.returns
returns c = most-in-days
