use Rattle.std.proofs.Common.{◌≡◌, Err, rules}
use Rattle.ics_text.specs.Parts.{lines_left}
use Rattle.ics_components.proofs.FileParts.{over-end, over-err}
use Rattle.ics_components.proofs.first_round.FirstRound.read.Goals as goal

pub returns-in_err-lines-clause-says : goal.returns-in_err-lines-clause-says
returns-in_err-lines-clause-says c =
    let same : c.from_residual.result ≡ Err c.in_err-lines.field-0.0 = search rules in
    over-err c.args.keep c.from_residual.result c.in_err-lines.field-0.0 (lines_left c.args.part) c.args.self.now c.lines.new.self _ same
    c.in_err-lines.ensures.over

pub returns-clause-says : goal.returns-clause-says
returns-clause-says c =
    over-end c.args.keep c.end.result c.in_ok-lines.field-0 (lines_left c.args.part) c.args.self.now c.lines.new.self c.in_ok-lines.ensures.over
    c.end.ensures
