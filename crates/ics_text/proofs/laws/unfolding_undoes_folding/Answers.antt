use Rattle.ics_text.proofs.Foldings.{unfolding-folds}
use Rattle.ics_text.proofs.laws.unfolding_undoes_folding.Goals as goal

pub returns : goal.returns
returns c = unfolding-folds
