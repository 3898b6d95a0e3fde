use Rattle.std.proofs.Common.{◌≡◌, ◌≤ℤ◌}
use Rattle.ics_zone.proofs.observed.Observed.hold_from.Given as goal

abbrev pub invariant-loop-made : goal.invariant-loop-made
invariant-loop-made l = record { same : l.self ≡ l.fn.self; low : l.fn.from ≤ℤ l.at; high : l.last ≤ℤ l.fn.to }
