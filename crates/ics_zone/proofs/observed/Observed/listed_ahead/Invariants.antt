use Rattle.std.proofs.Common.{pos, ◌≤ℤ◌}
use Rattle.ics_zone.specs.ZoneOffsets.{natural}
use Rattle.ics_zone.proofs.observed.Observed.listed_ahead.Given as goal

abbrev pub invariant-loop-ahead : goal.invariant-loop-ahead
invariant-loop-ahead l = record {
  some : pos 0 ≤ℤ l.ahead;
  most : l.ahead ≤ℤ pos 34_560_000;
}

abbrev pub decreases-loop-ahead : goal.decreases-loop-ahead
decreases-loop-ahead l = natural l.ahead
