use Rattle.std.proofs.Common.{◌≤◌, ◌<◌, ◌+◌, ◌-◌}
use Rattle.ics_rule.proofs.hour.greatest.Given as goal

abbrev pub invariant-loop-n : goal.invariant-loop-n
invariant-loop-n l = record { last : l.last < 64; from : l.from ≤ l.last + 1; low : l.last ≤ l.from }

abbrev pub decreases-loop-n : goal.decreases-loop-n
decreases-loop-n l = 65 - l.from
