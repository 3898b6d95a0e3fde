use Rattle.std.proofs.Common.{arith, rules, true, ◌-◌}
use Rattle.std.proofs.lemmas.Int.{ints}
use Rattle.ics_zone.proofs.WalkLemmas.{steady_joined, steady_pushed}
use Rattle.ics_zone.proofs.observed.add_span.Goals as goal

-- the last span becomes longer
pub returns-then-last-span : goal.returns-then-last-span
returns-then-last-span c = λ offset spans steady.
    steady_joined c.args.spans.now.items (c.len-count.result - 1) c.index-last.result.now c.args.span c.joined.result (omega arith)
    c.index-last.ensures (omega (arith, ints)) (search rules)
    (c.joined.ensures.from, (c.joined.ensures.next, c.joined.ensures.offset)) spans steady

-- or there is one more
pub returns : goal.returns
returns c = λ offset spans steady. steady_pushed c.args.spans.now.items c.args.span true c.in_ok-push.ensures.items spans steady
