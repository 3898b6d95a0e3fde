use Rattle.std.proofs.Common.{subst, sym, arith, ◌∙◌}
use Rattle.ics_rule.specs.Next.{NoneKept}
use Rattle.ics_starts.proofs.FindLemmas.{find-in, found-on, none-found}
use Rattle.ics_starts.proofs.kept_locals.joined.Goals as goal

pub returns : goal.returns
returns c = λ rule are next.
    let last = c.in_ok-last.last in
    let is = find-in rule c.args.finds.now _ last are c.in_ok-last.ensures in
    let none = none-found rule last.from last.to last.local (sym c.is_some.ensures ∙ c.if-is_some.false) is in
    found-on rule last.from c.args.next.from c.args.next.to c.args.next.local (omega (arith, c.if-last.false, c.if-last-next.false))
    (subst (NoneKept rule last.from) c.if-last-next.false none) next
