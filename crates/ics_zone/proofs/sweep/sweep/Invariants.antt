use Rattle.std.proofs.Common.{◌≡◌, ℤ, length}
use Rattle.ics_zone.specs.Inner.Sweeps.{IsSwept}
use Rattle.ics_zone.specs.Inner.Walks.{IsShort}
use Rattle.ics_zone.specs.Inner.ZoneOnsets.{AreSteady}
use Rattle.ics_zone.proofs.sweep.sweep.Given as goal

abbrev pub invariant-loop-k : goal.invariant-loop-k
invariant-loop-k l = record {
  long : length l.seen ≡ length l.fn.seen;
  swept : (offset : ℤ → ℤ) → IsShort offset → AreSteady offset l.spans → IsSwept offset l.locals l.reach l.seen;
}
