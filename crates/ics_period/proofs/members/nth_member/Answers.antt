use Rattle.std.proofs.Common.{arith}
use Rattle.ics_period.proofs.Counts.{count-none}
use Rattle.ics_period.proofs.ProductCounts.{count_zero}
use Rattle.ics_period.proofs.RankLemmas.{nth_last}
use Rattle.ics_period.proofs.members.nth_member.Goals as goal

pub loop-width-init : goal.loop-width-init
loop-width-init g c = grind (arith, count_zero)

pub returns-in-Some-clause-nth : goal.returns-in-Some-clause-nth
returns-in-Some-clause-nth g c =
    let none = count-none c.in-Some.first (g.S.Members.has c.args.set.now) (λ m less. c.in-Some.ensures.next.least m (omega arith) less) in
    record { passes = c.in-Some.ensures.next.passes; before = omega (arith, none, c.if-k-eq0.true) }

pub returns-clause-nth : goal.returns-clause-nth
returns-clause-nth g c = nth_last (g.S.Members.has c.args.set.now) c.args.k c.loop-width.low c.loop-width.width c.loop-width.invariant
    (omega (arith, c.loop-width.invariant))
