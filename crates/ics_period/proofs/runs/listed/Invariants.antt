use Rattle.std.proofs.Common.{◌≡◌, ℕ, ◌≤◌, ◌+◌, ◌-◌, ◌&&◌, ◌||◌, nat_le, nat_lt}
use Rattle.ics_fields.specs.Sets.{contains}
use Rattle.ics_period.proofs.runs.listed.Given as goal

abbrev pub invariant-loop-n : goal.invariant-loop-n
invariant-loop-n l = ((n : ℕ) → 1 ≤ n → contains l.listed n
    ≡ (nat_le n l.size && (contains l.places.front n || (nat_lt (l.size + 1 - n) l.from && contains l.places.back (l.size + 1 - n)))))
    × (1 ≤ l.from)

abbrev pub decreases-loop-n : goal.decreases-loop-n
decreases-loop-n l = 64 - l.from
