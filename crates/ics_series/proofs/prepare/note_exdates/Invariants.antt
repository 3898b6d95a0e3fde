use Rattle.std.proofs.Common.{◌≡◌}
use Rattle.ics_series.proofs.prepare.note_exdates.Given as goal

abbrev pub invariant-loop-time : goal.invariant-loop-time
invariant-loop-time l = l.zones ≡ l.fn.zones
