use Rattle.std.proofs.Common.{rules, SFits, sym, ap, ◌∙◌, to_z, w64}
use Rattle.std.proofs.lemmas.Int.{to_z-of_z}
use Rattle.ics_zone.proofs.gap_stretch.follows.Goals as goal

pub returns-then-last-shown_at-clause-on : goal.returns-then-last-shown_at-clause-on
returns-then-last-shown_at-clause-on c = λ some.
    let from : SFits w64 c.args.span.now.from = search rules in
    let next : SFits w64 c.args.last.now.next = search rules in
    sym (to_z-of_z w64 c.args.span.now.from from) ∙ ap (to_z w64) c.if-span-last.true ∙ to_z-of_z w64 c.args.last.now.next next
