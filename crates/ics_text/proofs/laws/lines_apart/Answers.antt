use Rattle.ics_text.proofs.Apart.{lines-apart}
use Rattle.ics_text.proofs.laws.lines_apart.Goals as goal

pub returns : goal.returns
returns c = λ breaks head rest ends plain. lines-apart head rest ends breaks plain
