use Rattle.std.proofs.Common.{◌≡◌}
use Rattle.ics_series.proofs.prepare.reach_each.Given as goal

abbrev pub invariant-loop-rdate : goal.invariant-loop-rdate
invariant-loop-rdate l = l.zones ≡ l.fn.zones
