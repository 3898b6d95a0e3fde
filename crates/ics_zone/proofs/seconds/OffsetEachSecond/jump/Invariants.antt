use Rattle.std.proofs.Common.{ℤ, pos, ◌+ℤ◌, ◌-ℤ◌, ◌<ℤ◌, ◌≤ℤ◌}
use Rattle.ics_zone.specs.Inner.EachSecond.{TellsOffsets}
use Rattle.ics_zone.specs.Moments.{shown}
use Rattle.ics_zone.proofs.seconds.OffsetEachSecond.jump.Given as goal

abbrev pub invariant-loop-k : goal.invariant-loop-k
invariant-loop-k l =
    (offset : ℤ → ℤ) → TellsOffsets offset l.fn.self → (t : ℤ) → (l.fn.seconds -ℤ l.fn.most) ≤ℤ t → t <ℤ ((l.fn.seconds -ℤ l.fn.most) +ℤ pos l.k)
    → shown offset t ≤ℤ l.fn.seconds
