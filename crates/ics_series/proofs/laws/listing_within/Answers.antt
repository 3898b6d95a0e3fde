use Rattle.ics_series.proofs.WindowLemmas.{listing-within}
use Rattle.ics_series.proofs.laws.listing_within.Goals as goal

pub returns : goal.returns
returns c = listing-within
