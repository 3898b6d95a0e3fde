use Rattle.ics_starts.proofs.RawLemmas.{one-start}
use Rattle.ics_starts.proofs.laws.one_start.Goals as goal

pub returns : goal.returns
returns c = one-start
