use Rattle.ics_starts.proofs.RawLemmas.{each-start}
use Rattle.ics_starts.proofs.laws.each_start.Goals as goal

pub returns : goal.returns
returns c = each-start
