use Rattle.ics_starts.proofs.UntilLemmas.{starts-by_until}
use Rattle.ics_starts.proofs.laws.starts_by_until.Goals as goal

pub returns : goal.returns
returns c = starts-by_until
