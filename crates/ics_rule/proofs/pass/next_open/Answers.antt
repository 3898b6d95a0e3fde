use Rattle.ics_rule.proofs.PassLemmas.{none_on, none_on_days}
use Rattle.ics_rule.proofs.pass.next_open.Goals as goal

pub returns-clause-none : goal.returns-clause-none
returns-clause-none c = none_on c.args.parts.now (none_on_days c.args.parts.now c.args.n c.next_open_day-day.result c.next_open_day-day.ensures.none)
    (rw c.max.ensures at c.next_time.ensures.none)
