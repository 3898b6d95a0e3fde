use Rattle.khal_list.proofs.TokenPages.{text-goes-on, text-splits}
use Rattle.khal_list.proofs.resuming.text_goes_on.Goals as goal

pub returns : goal.returns
returns c = record { splits = text-splits; alone = text-goes-on }
