use Rattle.khal_list.proofs.PageLemmas.{pages-join}
use Rattle.khal_list.proofs.resuming.pages.Goals as goal

pub returns : goal.returns
returns c = pages-join
