use Rattle.std.proofs.Common.{ℤ, pos, ◌+ℤ◌, ◌-ℤ◌, ◌≤ℤ◌, ◌<ℤ◌}
use Rattle.ics_zone.specs.ZoneOffsets.{zone_offset, natural}
use Rattle.ics_zone.specs.Moments.{shown}
use Rattle.ics_zone.proofs.observed.Observed.clear_hours.Given as goal

abbrev pub invariant-loop-at : goal.invariant-loop-at
invariant-loop-at l = record {
  low : l.fn.after ≤ℤ l.at;
  high : l.at ≤ℤ (l.fn.seconds +ℤ pos 86_401);
  earlier : (t : ℤ) → t ≤ℤ l.at → shown (zone_offset l.fn.self.said.items) t <ℤ l.fn.seconds;
}

abbrev pub decreases-loop-at : goal.decreases-loop-at
decreases-loop-at l = natural ((l.fn.seconds +ℤ pos 86_401) -ℤ l.at)
