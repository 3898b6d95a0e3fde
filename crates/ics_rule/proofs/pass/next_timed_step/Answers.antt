use Rattle.ics_rule.proofs.PassLemmas.{timed_open}
use Rattle.ics_rule.proofs.pass.next_timed_step.Goals as goal

pub returns : goal.returns
returns c = timed_open c.args.search.now.parts.now c.steps_out.result c.args.search.now.interval c.requires c.steps_out.ensures.none
