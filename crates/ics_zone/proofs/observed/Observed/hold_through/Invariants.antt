use Rattle.std.proofs.Common.{◌≡◌, ◌≤ℤ◌}
use Rattle.ics_zone.proofs.observed.Observed.hold_through.Given as goal

abbrev pub invariant-loop : goal.invariant-loop
invariant-loop l = record { same : l.self ≡ l.fn.self; low : l.fn.from ≤ℤ l.at }
