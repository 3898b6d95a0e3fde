use Rattle.std.proofs.Common.{◌≡◌, length}
use Rattle.ics_starts.specs.Inner.ByLocal.{AreEndedBy}
use Rattle.ics_starts.proofs.by_local.lasts.Given as goal

-- those of the values so far
abbrev pub invariant-loop-rdate : goal.invariant-loop-rdate
invariant-loop-rdate l = record {
  size : length l.lasts.items ≡ l.rdate-index;
  each : AreEndedBy l.event l.lasts.items;
}
