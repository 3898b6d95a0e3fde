use Rattle.std.proofs.Common.{◌≡◌, ◌+◌, ◌<◌, ◌≤◌, ◌-◌, true}
use Rattle.ics_fields.specs.Sets.{contains_wide}
use Rattle.ics_period.specs.Ranks.{count}
use Rattle.ics_period.proofs.RankLemmas.{is_twice}
use Rattle.ics_period.proofs.recurrence_period.ranks.listed_twice.Given as goal

abbrev pub invariant-loop-place : goal.invariant-loop-place
invariant-loop-place l = (l.total ≡ count l.place (is_twice l.positions l.size)) × ((l.place ≤ l.k)
    × (l.place < l.k → (l.size ≤ l.place + 383) × (contains_wide l.positions.front (l.place + 1) ≡ true)))

abbrev pub decreases-loop-place : goal.decreases-loop-place
decreases-loop-place l = l.k - l.place
