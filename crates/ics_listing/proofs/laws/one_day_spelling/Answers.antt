use Rattle.ics_listing.proofs.TokenLemmas.{one-day-spelling}
use Rattle.ics_listing.proofs.laws.one_day_spelling.Goals as goal

pub returns : goal.returns
returns c = one-day-spelling
