use Rattle.std.proofs.Common.{◌≡◌}
use Rattle.ics_series.proofs.prepare.note_shown_each.Given as goal

abbrev pub invariant-loop-event : goal.invariant-loop-event
invariant-loop-event l = l.display ≡ l.fn.display
