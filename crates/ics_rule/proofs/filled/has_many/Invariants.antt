use Rattle.std.proofs.Common.{◌≡◌, ◌<◌, ◌≤◌, ◌-◌}
use Rattle.ics_rule.specs.Inner.Filled.{locals_between}
use Rattle.ics_rule.proofs.filled.has_many.Given as goal

abbrev pub invariant-loop-day : goal.invariant-loop-day
invariant-loop-day l = record {
  low : l.from ≤ l.day;
  high : l.day ≤ l.end;
  total : l.total ≡ locals_between l.parts l.from l.day;
  few : l.total < l.least;
}

abbrev pub decreases-loop-day : goal.decreases-loop-day
decreases-loop-day l = l.end - l.day
