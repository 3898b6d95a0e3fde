use Rattle.std.proofs.Common.{◌≡◌, ◌<◌, ℕ, List, ◌+◌, ◌∷◌, drop, length, sym, ap, ◌∙◌, arith}
use Rattle.std.proofs.lemmas.List.{take_rest}
use Rattle.ics_text.specs.Unfolded.{physical_lines}
use Rattle.ics_text.proofs.Cuts.{whole, no_lf-from, cut_at}
use Rattle.ics_text.proofs.LineEnds.{lf-there, none-before}
use Rattle.ics_text.proofs.physical.cut_line.Goals as goal

pub returns-then-len-bytes-clause-lines : goal.returns-then-len-bytes-clause-lines
returns-then-len-bytes-clause-lines c =
    let bytes : List ℕ = c.args.bytes.now in
    let full : c.line_len-len.result ≡ length bytes = omega (arith, c.if-len-bytes.true) in
    whole bytes (no_lf-from bytes (λ k low within. none-before bytes c.line_len-len.result c.line_len-len.ensures.value k low (omega (arith, within, full))))

pub returns-clause-lines : goal.returns-clause-lines
returns-clause-lines c =
    let bytes : List ℕ = c.args.bytes.now in
    let len : ℕ = c.line_len-len.result in
    let is = c.line_len-len.ensures.value in
    let within : len < length bytes = omega (arith, c.line_len-len.ensures.within, c.if-len-bytes.false) in
    cut_at bytes len within (none-before bytes len is) (lf-there bytes len is within)
    ∙ ap (λ l. l ∷ physical_lines (drop (len + 1) bytes)) (sym c.without_cr.ensures)
    ∙ ap (λ r. c.without_cr.result.now ∷ physical_lines r) (sym (take_rest bytes (len + 1)))
