use Rattle.std.proofs.Common.{ℤ, ◌<ℤ◌, ◌≤ℤ◌}
use Rattle.ics_zone.specs.Inner.GapStretches.{IsUnpassed}
use Rattle.ics_zone.specs.Inner.ZoneOnsets.{AreSteady}
use Rattle.ics_zone.proofs.gap_stretch.jump_over.Given as goal

abbrev pub invariant-loop-k : goal.invariant-loop-k
invariant-loop-k l = record {
  some : l.last.from <ℤ l.last.next;
  unpassed : (offset : ℤ → ℤ) → AreSteady offset l.fn.spans → ((t : ℤ) → offset t ≤ℤ l.fn.most) → IsUnpassed offset l.fn.seconds l.last;
}
