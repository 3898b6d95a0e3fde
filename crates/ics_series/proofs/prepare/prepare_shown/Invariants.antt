use Rattle.std.proofs.Common.{◌≡◌}
use Rattle.ics_series.proofs.prepare.prepare_shown.Given as goal

abbrev pub invariant-loop-file : goal.invariant-loop-file
invariant-loop-file l = l.display ≡ l.fn.display
