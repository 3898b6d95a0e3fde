use Rattle.ics_series.proofs.MoveLemmas.{added-files}
use Rattle.ics_series.proofs.laws.added_files.Goals as goal

pub returns : goal.returns
returns c = added-files
