use Rattle.khal_list.proofs.TokenPages.{day-goes-on}
use Rattle.khal_list.proofs.resuming.day_goes_on.Goals as goal

pub returns : goal.returns
returns c = day-goes-on c.day_listing_behind.ensures
