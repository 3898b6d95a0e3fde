use Rattle.khal_list.proofs.TokenPages.{line-goes-on, day-line-goes-on}
use Rattle.khal_list.proofs.resuming.line_goes_on.Goals as goal

pub returns-clause-once : goal.returns-clause-once
returns-clause-once c = line-goes-on c.one_spelling.ensures

pub returns-clause-days : goal.returns-clause-days
returns-clause-days c = day-line-goes-on c.one_day_spelling.ensures c.day_listing_behind.ensures
