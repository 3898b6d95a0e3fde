use Rattle.ics_period.proofs.ClockLemmas.{second_next, second_none}
use Rattle.ics_rule.proofs.pass.next_open_second.Goals as goal

pub returns-in-Some-clause-none : goal.returns-in-Some-clause-none
returns-in-Some-clause-none c = second_next c.args.parts.now c.clock_set-hours.result c.clock_set-minutes.result c.clock_set-seconds.result
    c.clock_set-hours.ensures.members c.clock_set-minutes.ensures.members c.clock_set-seconds.ensures.members
    c.args.n c.in-Some.ensures.small c.in-Some.ensures.next

pub returns-in-None-clause-none : goal.returns-in-None-clause-none
returns-in-None-clause-none c = second_none c.args.parts.now c.clock_set-hours.result c.clock_set-minutes.result c.clock_set-seconds.result
    c.clock_set-hours.ensures.members c.clock_set-minutes.ensures.members c.clock_set-seconds.ensures.members
    c.args.n c.in-None.ensures.next
