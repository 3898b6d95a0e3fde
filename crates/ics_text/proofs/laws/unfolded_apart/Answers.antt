use Rattle.ics_text.proofs.Apart.{fold-apart, unfolded-apart}
use Rattle.ics_text.proofs.laws.unfolded_apart.Goals as goal

pub returns : goal.returns
returns c = record { lines = unfolded-apart; fold = fold-apart }
