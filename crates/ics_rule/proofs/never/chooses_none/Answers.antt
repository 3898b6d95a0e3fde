use Rattle.std.proofs.Common.{◌∙◌, sym, arith}
use Rattle.std.proofs.lemmas.Bool.{and_parts}
use Rattle.ics_rule.proofs.MostLemmas.{none_placed}
use Rattle.ics_rule.proofs.never.chooses_none.Goals as goal

pub returns : goal.returns
returns c = λ both start n inside.
    let past = and_parts c.is_past.result c.is_past-2.result both in
    none_placed c.args.parts.now start n c.most_allowed-most.result inside (c.most_allowed-most.ensures start n) (sym c.is_empty.ensures ∙ c.if-is_empty.false)
    (λ k low high. let none = c.is_past.ensures past.0 k low high in grind arith)
    (λ k low high. let none = c.is_past-2.ensures past.1 k low high in grind arith)
