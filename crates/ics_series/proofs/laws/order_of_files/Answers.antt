use Rattle.ics_series.proofs.MoveLemmas.{order-of-files}
use Rattle.ics_series.proofs.laws.order_of_files.Goals as goal

pub returns : goal.returns
returns c = order-of-files
