use Rattle.khal_list.proofs.PageLemmas.{goes-on}
use Rattle.khal_list.proofs.resuming.goes_on.Goals as goal

pub returns : goal.returns
returns c files = goes-on {files = files}
