use Rattle.std.proofs.Common.{◌≤ℤ◌, pos}
use Rattle.ics_starts.proofs.ByLocalLemmas.{AreLastingSoFar}
use Rattle.ics_starts.proofs.by_local.longest.Given as goal

-- no PERIOD so far lasts longer
abbrev pub invariant-loop-rdate : goal.invariant-loop-rdate
invariant-loop-rdate l = record {
  least : pos 0 ≤ℤ l.most;
  most : l.most ≤ℤ pos 1_000_000_000_000;
  each : AreLastingSoFar l.event l.rdate-index l.most;
}
