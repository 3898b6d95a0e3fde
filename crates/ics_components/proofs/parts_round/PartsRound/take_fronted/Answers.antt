use Rattle.std.proofs.Common.{◌≡◌, None, sym, ap, ◌∙◌}
use Rattle.std.specs.Result.{result_ok}
use Rattle.ics_text.specs.ContentLines.{content_of}
use Rattle.ics_components.proofs.FrontSteps.{bad_fronted}
use Rattle.ics_components.proofs.parts_round.PartsRound.take_fronted.Goals as goal

-- a line that is no content line
pub returns-in_default : goal.returns-in_default
returns-in_default c =
    let none : content_of c.args.line.now ≡ None = sym c.content.ensures.computes ∙ ap result_ok c.in_default.is in
    rw none
    (bad_fronted c.take_bad.result c.args.number c.args.self.now.path c.args.self.now c.take_bad.new.self c.args.front.now c.take_bad.ensures)
