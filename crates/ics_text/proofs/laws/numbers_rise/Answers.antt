use Rattle.ics_text.proofs.Rising.{unfolded-rises}
use Rattle.ics_text.proofs.laws.numbers_rise.Goals as goal

pub returns : goal.returns
returns c = unfolded-rises
