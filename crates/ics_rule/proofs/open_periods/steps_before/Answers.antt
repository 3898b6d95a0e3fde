use Rattle.std.proofs.Common.{sym}
use Rattle.ics_period.proofs.IntervalLemmas.{count_steps}
use Rattle.ics_rule.proofs.open_periods.steps_before.Goals as goal

pub returns : goal.returns
returns c = rw c.saturating_sub.ensures (sym (count_steps c.args.interval c.requires.interval c.args.first c.args.number))
