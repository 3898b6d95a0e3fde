use Rattle.std.proofs.Common.{length, ◌+◌, sym, ◌∙◌, arith, length-drop}
use Rattle.std.proofs.lemmas.List.{take_rest}
use Rattle.ics_values.proofs.TextLemmas.{text_of-plain, text_of-parts}
use Rattle.ics_values.proofs.text.first_escape.Goals as goal

pub returns-in_err-at-clause-parts : goal.returns-in_err-at-clause-parts
returns-in_err-at-clause-parts c = rw c.from_residual.ensures (text_of-plain c.args.text.now (length c.args.text.now) (omega arith) c.in_err-at.ensures)

pub returns-in_err-byte-clause-parts : goal.returns-in_err-byte-clause-parts
returns-in_err-byte-clause-parts c =
    let at = c.in_ok-at.at in
    let none_left = rw (take_rest c.args.text.now (at + 1)) at c.in_err-byte.ensures.cases in
    rw c.from_residual-in_err-byte.ensures
    (text_of-plain c.args.text.now at (omega (arith, none_left, length-drop (at + 1) c.args.text.now)) c.in_ok-at.ensures.0.before)

pub returns-clause-parts : goal.returns-clause-parts
returns-clause-parts c =
    let found = c.in_ok-at.ensures in
    let at = c.in_ok-at.at in
    text_of-parts c.args.text.now at found.0.high found.1
    (sym (take_rest c.args.text.now (at + 1)) ∙ c.in_ok-byte.ensures.cases.0) found.0.before
