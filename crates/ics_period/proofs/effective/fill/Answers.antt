use Rattle.ics_period.proofs.effective.fill.Goals as goal

pub returns-clause-interval : goal.returns-clause-interval
returns-clause-interval c = c.parts.invariant.interval
