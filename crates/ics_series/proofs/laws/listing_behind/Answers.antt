use Rattle.ics_series.proofs.AfterLemmas.{listing-behind}
use Rattle.ics_series.proofs.laws.listing_behind.Goals as goal

pub returns : goal.returns
returns c = listing-behind
