use Rattle.std.proofs.Common.{◌<◌, ◌≤◌}
use Rattle.ics_period.proofs.steps.advance_of.Given as goal

abbrev pub invariant-loop-rest : goal.invariant-loop-rest
invariant-loop-rest l = (l.divisor ≤ 604_800) × ((l.rest ≤ 604_800) × ((l.steps < l.cycle) × (l.steps_of_rest < l.cycle)))

abbrev pub decreases-loop-rest : goal.decreases-loop-rest
decreases-loop-rest l = l.rest
