use Rattle.std.proofs.Common.{◌≡◌, ◌*◌}
use Rattle.ics_fields.specs.Sets.{contains_wide}
use Rattle.ics_period.specs.Ranks.{count}
use Rattle.ics_period.proofs.members.WideBitSetMembers.count_below.Given as goal

abbrev pub invariant-loop-place : goal.invariant-loop-place
invariant-loop-place l = l.total ≡ count (l.place * 64) (contains_wide l.self)
