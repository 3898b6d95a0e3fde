use Rattle.khal_list.proofs.TokenPages.{token-goes-on}
use Rattle.khal_list.proofs.resuming.token_goes_on.Goals as goal

pub returns : goal.returns
returns c = token-goes-on c.one_spelling.ensures
