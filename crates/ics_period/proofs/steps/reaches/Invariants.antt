use Rattle.std.proofs.Common.{◌-◌, ◌≤◌}
use Rattle.ics_period.proofs.steps.reaches.Given as goal

abbrev pub invariant-loop-minute : goal.invariant-loop-minute
invariant-loop-minute l = l.at ≤ 1_440

abbrev pub decreases-loop-minute : goal.decreases-loop-minute
decreases-loop-minute l = 1_440 - l.at
