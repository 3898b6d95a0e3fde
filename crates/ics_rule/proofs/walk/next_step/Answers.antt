use Rattle.ics_period.proofs.IntervalLemmas.{next_stepped}
use Rattle.ics_rule.proofs.walk.next_step.Goals as goal

pub returns-else-own-first : goal.returns-else-own-first
returns-else-own-first c = next_stepped c.args.interval c.requires.interval c.args.first c.args.own c.if-own-first.false
