use Rattle.std.proofs.Common.{◌+◌, arith}
use Rattle.ics_period.proofs.PeriodLemmas.{begun}
use Rattle.ics_rule.proofs.PassLemmas.{step_open}
use Rattle.ics_rule.proofs.pass.next_open_step.Goals as goal

pub first_local-begin-requires : goal.first_local-begin-requires
first_local-begin-requires c = grind (arith, begun)

pub next_open-place-requires-clause-local : goal.next_open-place-requires-clause-local
next_open-place-requires-clause-local c = grind (arith, begun)

pub returns : goal.returns
returns c = rw c.number.ensures at (step_open {q = c.args.search.now.parts.now} {number = c.number.result + c.args.search.now.parts.now.interval}
    c.first_local-begin.ensures c.next_open-place.ensures.low c.next_open-place.ensures.none (rw c.period_of.ensures.value at c.next_step.ensures))
