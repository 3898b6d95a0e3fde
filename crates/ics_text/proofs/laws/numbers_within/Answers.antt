use Rattle.ics_text.proofs.Rising.{unfolded-within}
use Rattle.ics_text.proofs.laws.numbers_within.Goals as goal

pub returns : goal.returns
returns c = unfolded-within
