use Rattle.std.proofs.Common.{ℤ}
use Rattle.ics_zone.specs.Inner.Walks.{IsShort, IsWalk}
use Rattle.ics_zone.specs.Inner.ZoneOnsets.{AreSteady}
use Rattle.ics_zone.proofs.walk.moment_in.Given as goal

abbrev pub invariant-loop-k : goal.invariant-loop-k
invariant-loop-k l = (offset : ℤ → ℤ) → IsShort offset → AreSteady offset l.spans → IsWalk offset l.fn.seconds l.walk
