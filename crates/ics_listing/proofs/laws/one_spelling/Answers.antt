use Rattle.ics_listing.proofs.TokenLemmas.{one-spelling}
use Rattle.ics_listing.proofs.laws.one_spelling.Goals as goal

pub returns : goal.returns
returns c = one-spelling
