use Rattle.std.proofs.Common.{false, ◌≡◌, ◌∷◌, length, take, refl, ap, sym, ◌∙◌}
use Rattle.std.proofs.Math.Seq.{take-append_seam}
use Rattle.khal_words.proofs.FormatLemmas.{closing_behind, closing_parts}
use Rattle.khal_words.proofs.format.named_piece.Goals as goal

pub returns-in_err-end-clause-none : goal.returns-in_err-end-clause-none
returns-in_err-end-clause-none g c none field after is =
    let found = closing_behind (g.F.Placeholder.name field) after c.args.text.now (g.met.F.Placeholder.plain field) is in
    cc (found, c.in_err-end.ensures)

pub returns-in_err-field-clause-none : goal.returns-in_err-field-clause-none
returns-in_err-field-clause-none g c none field after is =
    let name = g.F.Placeholder.name field in
    let found = closing_behind name after c.args.text.now (g.met.F.Placeholder.plain field) is in
    let end : c.in_ok-end.end ≡ length name = cc (found, c.in_ok-end.ensures) in
    c.in_err-field.ensures.none (refl {a = false}) field (ap (λ n. take n c.args.text.now) end ∙ ap (λ t. take (length name) t) is
    ∙ take-append_seam name (125 ∷ after))

pub returns-clause-some : goal.returns-clause-some
returns-clause-some g c = closing_parts c.args.text.now (g.F.Placeholder.name c.in_ok-field.field) c.in_ok-end.end (sym c.in_ok-end.ensures)
    c.in_ok-field.ensures.some
