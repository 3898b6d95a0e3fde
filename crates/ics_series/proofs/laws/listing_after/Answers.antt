use Rattle.ics_series.proofs.AfterLemmas.{listing-after}
use Rattle.ics_series.proofs.laws.listing_after.Goals as goal

pub returns : goal.returns
returns c = listing-after
