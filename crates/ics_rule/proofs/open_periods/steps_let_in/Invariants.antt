use Rattle.std.proofs.Common.{◌-◌, ◌*◌}
use Rattle.ics_rule.specs.Inner.Rounds.{seconds_of}
use Rattle.ics_rule.specs.Inner.OpenPeriods.{lets_own}
use Rattle.ics_period.proofs.StepWalks.{IsStepWalk}
use Rattle.ics_rule.proofs.open_periods.steps_let_in.Given as goal

abbrev pub invariant-loop-number : goal.invariant-loop-number
invariant-loop-number l = IsStepWalk l.search.first l.search.parts.now.interval
    (λ p. lets_own l.search.parts.now.frequency l.search.parts.now (p * seconds_of l.search.parts.now.frequency)) l.from l.before l.number l.total

abbrev pub decreases-loop-number : goal.decreases-loop-number
decreases-loop-number l = l.before - l.number
