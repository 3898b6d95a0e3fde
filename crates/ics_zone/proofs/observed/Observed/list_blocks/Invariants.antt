use Rattle.std.proofs.Common.{◌≡◌, pos, ◌+ℤ◌, ◌≤ℤ◌}
use Rattle.ics_zone.proofs.observed.Observed.list_blocks.Given as goal

abbrev pub invariant-loop : goal.invariant-loop
invariant-loop l = record { same : l.self ≡ l.fn.self; low : pos 0 ≤ℤ (l.at +ℤ pos 280_000_000_000); high : l.at ≤ℤ pos 280_000_000_000 }
