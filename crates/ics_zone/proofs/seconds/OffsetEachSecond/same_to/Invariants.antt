use Rattle.std.proofs.Common.{◌≡◌, ◌≢◌, ℤ, ◌-ℤ◌, ◌<ℤ◌, ◌≤ℤ◌}
use Rattle.std.specs.Prelude.{MatchBool}
use Rattle.ics_zone.specs.Inner.EachSecond.{TellsOffsets}
use Rattle.ics_zone.specs.ZoneOffsets.{natural}
use Rattle.ics_zone.proofs.seconds.OffsetEachSecond.same_to.Given as goal

abbrev pub invariant-loop-next : goal.invariant-loop-next
invariant-loop-next l = record {
  from : l.fn.at ≤ℤ l.next;
  end : l.next ≤ℤ l.fn.end;
  same : (clock : ℤ → ℤ) → TellsOffsets clock l.fn.self → (t : ℤ) → l.fn.at ≤ℤ t → t <ℤ l.next
      → MatchBool l.fn.has (clock t ≡ l.fn.offset) (clock t ≢ l.fn.offset);
}

abbrev pub decreases-loop-next : goal.decreases-loop-next
decreases-loop-next l = natural (l.fn.end -ℤ l.next)
