-- How the steps of an interval go round a cycle of periods.
use Rattle.std.specs.Prelude.{ℕ, ◌+◌, ◌-◌, ◌*◌, ◌%◌, Bool, ◌==◌}
use Rattle.ics_period.specs.declared.steps.Round.{Round}

-- steps of the interval reach period t of a cycle
abbrev pub is_reached : Round → ℕ → Bool
is_reached r t = (t + (r.periods - r.from)) % r.divisor == 0

-- so many steps lead to it, times the divisor
abbrev pub product : Round → ℕ → ℕ
product r t = (t + (r.periods - r.from)) * r.factor % r.periods
