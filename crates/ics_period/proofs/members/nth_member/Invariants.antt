use Rattle.std.proofs.Common.{◌+◌, ◌<◌, ◌≤◌}
use Rattle.ics_period.specs.Ranks.{count}
use Rattle.ics_period.proofs.members.nth_member.Given as goal

abbrev pub invariant-loop-width : goal.invariant-loop-width
invariant-loop-width g l = (count l.low (g.S.Members.has l.set) ≤ l.k) × ((l.k < count (l.low + l.width) (g.S.Members.has l.set))
    × ((l.low + l.width ≤ 384) × (1 ≤ l.width)))

abbrev pub decreases-loop-width : goal.decreases-loop-width
decreases-loop-width g l = l.width
