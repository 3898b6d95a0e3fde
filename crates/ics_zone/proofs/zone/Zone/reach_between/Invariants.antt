use Rattle.std.proofs.Common.{◌≡◌}
use Rattle.ics_zone.proofs.zone.Zone.reach_between.Given as goal

abbrev pub invariant-loop : goal.invariant-loop
invariant-loop l = l.self ≡ l.fn.self
