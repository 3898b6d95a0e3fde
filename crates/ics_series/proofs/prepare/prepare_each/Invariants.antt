use Rattle.std.proofs.Common.{◌≡◌}
use Rattle.ics_series.proofs.prepare.prepare_each.Given as goal

abbrev pub invariant-loop-k : goal.invariant-loop-k
invariant-loop-k l = l.files ≡ l.fn.files
