use Rattle.std.proofs.Common.{◌≡◌, ℤ, pos, ◌+ℤ◌, ◌≤ℤ◌}
use Rattle.ics_zone.specs.Inner.EachSecond.{TellsOffsets}
use Rattle.ics_zone.specs.Inner.Narrowed.{IsGreatestOf}
use Rattle.ics_zone.proofs.seconds.OffsetEachSecond.stretch.Given as goal

abbrev pub invariant-loop-offset : goal.invariant-loop-offset
invariant-loop-offset l = record {
  from : l.stretch.from ≡ l.fn.seconds;
  order : l.stretch.from ≤ℤ l.stretch.to;
  to : l.stretch.to ≤ℤ (l.fn.seconds +ℤ pos 3_600);
  greatest : (clock : ℤ → ℤ) → TellsOffsets clock l.fn.self → IsGreatestOf clock l.offsets l.offset-index l.stretch;
}
