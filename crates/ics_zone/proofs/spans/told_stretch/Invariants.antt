use Rattle.std.proofs.Common.{◌≡◌, ℤ}
use Rattle.ics_zone.specs.Inner.Narrowed.{IsGreatestOf}
use Rattle.ics_zone.specs.Inner.ZoneOnsets.{AreSteady}
use Rattle.ics_zone.proofs.spans.told_stretch.Given as goal

abbrev pub invariant-loop-offset : goal.invariant-loop-offset
invariant-loop-offset l = record {
  from : l.stretch.from ≡ l.fn.seconds;
  greatest : (clock : ℤ → ℤ) → AreSteady clock l.fn.spans → IsGreatestOf clock l.offsets l.offset-index l.stretch;
}
