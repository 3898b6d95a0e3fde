use Rattle.ics_rule.proofs.PassLemmas.{open_on}
use Rattle.ics_rule.proofs.pass.next_step_after.Goals as goal

pub returns : goal.returns
returns c = open_on c.next_open_step-next.ensures c.next_timed_step.ensures
