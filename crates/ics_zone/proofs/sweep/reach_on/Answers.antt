use Rattle.std.proofs.Common.{rules, arith, ◌≡◌, inl, inr, SFits, ◌<ℤ◌, w32, w64}
use Rattle.std.proofs.lemmas.Int.{ints, to_z-of_z}
use Rattle.ics_zone.proofs.SweepLemmas.{less_or_not, swept_on}
use Rattle.ics_zone.proofs.sweep.reach_on.Goals as goal

pub returns-clause-swept : goal.returns-clause-swept
returns-clause-swept c = λ offset short steady swept.
    let next : SFits w64 c.args.span.now.next = search rules in
    let value : SFits w32 c.args.span.now.offset = search rules in
    let before : SFits w32 c.args.reach.now.before = search rules in
    let joined : c.args.reach.now.low ≡ c.args.span.now.from = omega (arith, ints, c.if-from-reach.false) in
    let some : c.args.span.now.from <ℤ c.args.span.now.next = omega (arith, ints, c.if-from-next.false) in
    rw (to_z-of_z w64 c.args.span.now.next next, to_z-of_z w32 c.args.span.now.offset value)
    (swept_on {locals = c.args.locals.now} {reach = c.args.reach.now} {span = c.args.span.now} c.see_each.new.seen
    short steady joined some swept c.min-begin.result
    c.passed-end.result c.max.result
    (λ k d h. let less = c.passed.ensures.before k d (omega arith) (omega (arith, h, c.min-begin.ensures)) in omega (arith, ints))
    (omega (arith, c.min-begin.ensures))
    (λ k d h. let less = c.passed-end.ensures.before k d (omega arith) h in omega (arith, ints))
    (λ k d low h. let more = c.passed-end.ensures.later k d low h in omega (arith, ints))
    c.see_each.ensures.others
    (simp (to_z-of_z, before) at c.see_each.ensures.told)
    (λ k h. elim (less_or_not k c.args.reach.now.past) [ inl less ↦ inl less | inr more ↦ inr (omega (arith, more, h, c.max.ensures)) ]))
