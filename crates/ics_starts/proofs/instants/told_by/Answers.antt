use Rattle.std.proofs.Common.{subst}
use Rattle.ics_starts.specs.Clocks.{AreSpansOf}
use Rattle.ics_starts.proofs.StretchLemmas.{kept-stretched}
use Rattle.ics_starts.proofs.instants.told_by.Goals as goal

pub returns-in-Some : goal.returns-in-Some
returns-in-Some c = λ clock are.
    kept-stretched clock c.in-Some.kept c.stretch.result (subst (AreSpansOf clock) c.in-Some.is are) c.stretch.ensures
