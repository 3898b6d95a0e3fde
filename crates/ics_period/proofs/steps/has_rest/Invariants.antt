use Rattle.std.proofs.Common.{◌-◌}
use Rattle.ics_period.proofs.steps.has_rest.Given as goal

abbrev pub decreases-loop-own : goal.decreases-loop-own
decreases-loop-own l = 60 - l.own
