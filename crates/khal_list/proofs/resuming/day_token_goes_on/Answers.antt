use Rattle.khal_list.proofs.TokenPages.{day-token-goes-on}
use Rattle.khal_list.proofs.resuming.day_token_goes_on.Goals as goal

pub returns : goal.returns
returns c = day-token-goes-on c.one_day_spelling.ensures c.day_listing_behind.ensures
