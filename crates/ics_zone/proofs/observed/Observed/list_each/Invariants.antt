use Rattle.std.proofs.Common.{◌≡◌}
use Rattle.ics_zone.proofs.observed.Observed.list_each.Given as goal

abbrev pub invariant-loop-k : goal.invariant-loop-k
invariant-loop-k l = l.self ≡ l.fn.self
