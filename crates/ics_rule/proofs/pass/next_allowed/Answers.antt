use Rattle.ics_rule.proofs.PassLemmas.{none_on}
use Rattle.ics_rule.proofs.pass.next_allowed.Goals as goal

pub returns-clause-none : goal.returns-clause-none
returns-clause-none c = none_on c.args.parts.now c.next_time-at.ensures.none c.next_open.ensures.none
