use Rattle.std.proofs.Common.{◌+◌, ◌-◌}
use Rattle.ics_rule.specs.Inner.Searches.{IsWalk}
use Rattle.ics_rule.proofs.cursor.Cursor.walk.Given as goal

abbrev pub invariant-loop-number : goal.invariant-loop-number
invariant-loop-number l = IsWalk l.search.parts.now l.search.start l.search.count l.stop l.number l.fn.self l.self

abbrev pub decreases-loop-number : goal.decreases-loop-number
decreases-loop-number l = l.end + 1 - l.number
