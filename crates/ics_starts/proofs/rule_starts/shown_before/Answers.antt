use Rattle.std.proofs.Common.{◌≤ℤ◌, ◌<ℤ◌, w64, arith, SFits}
use Rattle.std.proofs.lemmas.Int.{int_min_is, ints}
use Rattle.ics_starts.proofs.RuleStepLemmas.{sum-back}
use Rattle.ics_starts.proofs.rule_starts.shown_before.Goals as goal

pub returns-then-next-stretch-clause-early : goal.returns-then-next-stretch-clause-early
returns-then-next-stretch-clause-early c = λ clock s local on before.
    let fits : SFits w64 c.args.next = c.ranges.next in
    absurd (omega (arith, ints, on, before))

pub overflow_add-moment : goal.overflow_add-moment
overflow_add-moment c = omega (arith, ints, c.requires.moment, c.requires.short)

pub returns-clause-early : goal.returns-clause-early
returns-clause-early c = λ clock s local on before.
    let sum = sum-back c.requires.moment c.requires.short in
    let from : c.args.stretch.from ≤ℤ local = omega (arith, ints, on, c.if-next-stretch.false) in
    let to : local <ℤ c.args.stretch.to = omega (arith, ints, before, int_min_is, c.min.ensures.value) in
    omega (arith, ints, before, int_min_is, c.min.ensures.value, sum, s.moments local from to)

pub returns-clause-near : goal.returns-clause-near
returns-clause-near c =
    omega (arith, ints, int_min_is, c.min.ensures.value, sum-back c.requires.moment c.requires.short, c.requires.short)
