use Rattle.std.proofs.Common.{List, ℕ, ◌++◌, Option, Some, None, Bor, IfSome}
use Rattle.ics_text.specs.Cuts.{IsCut}
use Rattle.ics_text.proofs.Endings.{cut-behind}
use Rattle.ics_text.proofs.cutting.first_cut.Goals as goal

behind : (before : List ℕ) (result : Option (Bor (List ℕ) × Bor (List ℕ))) → IfSome result (λ parts. IsCut parts.0.now parts.1.now) →
    IfSome result (λ parts. IsCut (before ++ parts.0.now) parts.1.now)
behind before None cut = tt
behind before (Some parts) cut = cut-behind before parts.0.now parts.1.now cut

pub returns-then-marks-ne0-clause-cut : goal.returns-then-marks-ne0-clause-cut
returns-then-marks-ne0-clause-cut c = behind c.args.before.now c.cut_there.result c.cut_there.ensures.cut

pub returns-in-Some-clause-cut : goal.returns-in-Some-clause-cut
returns-in-Some-clause-cut c = cut-behind c.args.before.now c.in-Some.parts.0.now c.in-Some.parts.1.now c.in-Some.ensures.cut
