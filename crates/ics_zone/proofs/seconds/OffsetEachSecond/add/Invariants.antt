use Rattle.std.proofs.Common.{◌≡◌, ◌-◌, ◌≤◌, length, ℤ}
use Rattle.ics_zone.specs.Inner.EachSecond.{TellsOffsets}
use Rattle.ics_zone.specs.Inner.ZoneOnsets.{IsSteady}
use Rattle.ics_zone.proofs.seconds.OffsetEachSecond.add.Given as goal

abbrev pub invariant-loop-span : goal.invariant-loop-span
invariant-loop-span l = record {
  same : l.self.from ≡ l.initial.self.from;
  begun : l.first ≤ length l.self.offsets.items;
  told : (offset : ℤ → ℤ) → TellsOffsets offset l.initial.self → IsSteady offset l.fn.span.from l.fn.span.next l.fn.span.offset
      → TellsOffsets offset l.self;
}

abbrev pub decreases-loop-span : goal.decreases-loop-span
decreases-loop-span l = l.count - length l.self.offsets.items
