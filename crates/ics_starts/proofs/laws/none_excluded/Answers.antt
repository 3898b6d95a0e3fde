use Rattle.ics_starts.proofs.RawLemmas.{none-excluded}
use Rattle.ics_starts.proofs.laws.none_excluded.Goals as goal

pub returns : goal.returns
returns c = none-excluded
