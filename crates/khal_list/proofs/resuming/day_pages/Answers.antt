use Rattle.khal_list.proofs.PageLemmas.{day-pages-join}
use Rattle.khal_list.proofs.resuming.day_pages.Goals as goal

pub returns : goal.returns
returns c = day-pages-join c.day_listing_behind.ensures
