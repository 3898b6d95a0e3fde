use Rattle.ics_rule.proofs.PassLemmas.{least_open, open_on}
use Rattle.ics_rule.proofs.quiet.step_from.Goals as goal

pub returns-then-looks-eq0 : goal.returns-then-looks-eq0
returns-then-looks-eq0 c = open_on (least_open c.next_step-step.ensures) c.next_timed_step.ensures
