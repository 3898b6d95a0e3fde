use Rattle.std.proofs.Common.{◌≡◌, ℕ, ◌+◌, ◌-◌, ◌*◌, ◌≤◌}
use Rattle.ics_rule.proofs.rounds.calendar_round.Given as goal

abbrev pub invariant-loop-round : goal.invariant-loop-round
invariant-loop-round l = (k : ℕ) × ((1 ≤ k) × (l.round ≡ k * l.cycle))

abbrev pub decreases-loop-round : goal.decreases-loop-round
decreases-loop-round l = l.periods + 1 - l.round
