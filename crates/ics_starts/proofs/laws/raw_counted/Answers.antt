use Rattle.ics_starts.proofs.RawLemmas.{raw-counted}
use Rattle.ics_starts.proofs.laws.raw_counted.Goals as goal

pub returns : goal.returns
returns c = raw-counted
