use Rattle.std.proofs.Common.{◌≡◌, ℕ, ◌+◌, ◌-◌, ◌&&◌, nat_lt}
use Rattle.ics_fields.specs.Sets.{contains_wide}
use Rattle.ics_period.specs.Candidates.{lets_date}
use Rattle.ics_period.proofs.days.those_let_in.Given as goal

abbrev pub invariant-loop-k : goal.invariant-loop-k
invariant-loop-k l = (k : ℕ) → contains_wide l.days k ≡ (contains_wide l.some k && (nat_lt k l.from && lets_date l.parts (l.first + k)))

abbrev pub decreases-loop-k : goal.decreases-loop-k
decreases-loop-k l = 384 - l.from
