use Rattle.std.proofs.Common.{ℤ, pos, ◌+ℤ◌, ◌-ℤ◌, ◌≤ℤ◌, ◌<ℤ◌}
use Rattle.ics_zone.specs.ZoneOffsets.{zone_offset, natural}
use Rattle.ics_zone.specs.Moments.{shown}
use Rattle.ics_zone.proofs.observed.Observed.jump.Given as goal

abbrev pub invariant-loop-after : goal.invariant-loop-after
invariant-loop-after l = record {
  low : (l.fn.seconds -ℤ pos 86_400) ≤ℤ l.after;
  high : l.after ≤ℤ (l.fn.seconds +ℤ pos 86_401);
  earlier : (t : ℤ) → t ≤ℤ l.after → shown (zone_offset l.fn.self.said.items) t <ℤ l.fn.seconds;
}

abbrev pub decreases-loop-after : goal.decreases-loop-after
decreases-loop-after l = natural ((l.fn.seconds +ℤ pos 86_401) -ℤ l.after)
