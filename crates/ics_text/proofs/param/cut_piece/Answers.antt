use Rattle.std.proofs.Common.{◌∙◌, sym, ap, false, ◌+◌}
use Rattle.std.proofs.lemmas.List.{take_rest}
use Rattle.ics_text.specs.Inner.Pieces.{pieces_by}
use Rattle.ics_text.proofs.Parameters.{cut-pieces}
use Rattle.ics_text.proofs.param.cut_piece.Goals as goal

pub returns-in-None-clause-pieces : goal.returns-in-None-clause-pieces
returns-in-None-clause-pieces c =
    cut-pieces c.args.separator false c.args.text.now c.requires ∙ ap (pieces_by c.args.separator c.args.text.now) (sym c.in-None.ensures.value)

pub returns-in-Some-clause-pieces : goal.returns-in-Some-clause-pieces
returns-in-Some-clause-pieces c =
    rw (take_rest c.args.text.now (c.in-Some.at + 1))
    (cut-pieces c.args.separator false c.args.text.now c.requires ∙ ap (pieces_by c.args.separator c.args.text.now) (sym c.in-Some.ensures.value))
