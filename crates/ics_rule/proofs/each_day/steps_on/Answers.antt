use Rattle.std.proofs.Common.{◌≡◌, ◌≤◌}
use Rattle.ics_rule.specs.Inner.OpenPeriods.{timely_on}
use Rattle.ics_rule.proofs.OpenLemmas.{day_seconds}
use Rattle.ics_rule.proofs.RestLemmas.{steps_of_day}
use Rattle.ics_rule.proofs.each_day.steps_on.Goals as goal
use Rattle.ics_rule.proofs.each_day.steps_on.Goals.{After-steps_let_in}

own : (c : After-steps_let_in) → (c.steps_let_in.result ≡ timely_on c.args.search.now.parts.now c.args.search.now.first c.args.day)
    × (c.steps_let_in.result ≤ 86_400)
own c = steps_of_day c.args.search.now.parts.now c.args.search.now.first c.args.day
    (rw (c.seconds_of-per_day.ensures.value, (day_seconds c.args.search.now.parts.now.frequency c.requires.fine c.requires.unit).1) at c.steps_let_in.ensures)

pub returns-clause-value : goal.returns-clause-value
returns-clause-value c = (own (goal.at.returns-clause-value c).After-steps_let_in).0

pub returns-clause-bound : goal.returns-clause-bound
returns-clause-bound c = (own (goal.at.returns-clause-bound c).After-steps_let_in).1
