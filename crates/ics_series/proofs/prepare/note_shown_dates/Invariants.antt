use Rattle.std.proofs.Common.{◌≡◌}
use Rattle.ics_series.proofs.prepare.note_shown_dates.Given as goal

abbrev pub invariant-loop-rdate : goal.invariant-loop-rdate
invariant-loop-rdate l = l.display ≡ l.fn.display
