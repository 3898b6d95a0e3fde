use Rattle.std.proofs.Common.{◌+◌, ◌-◌, ◌≤◌}
use Rattle.ics_rule.specs.Inner.Searches.{IsWalk}
use Rattle.ics_rule.proofs.cursor.Cursor.turn_through.Given as goal

abbrev pub invariant-loop-number : goal.invariant-loop-number
invariant-loop-number l = record {
  walk : IsWalk l.search.parts.now l.search.start l.search.count (l.fn.self.place + 1) l.number l.fn.self l.self;
  high : l.number ≤ l.end;
}

abbrev pub decreases-loop-number : goal.decreases-loop-number
decreases-loop-number l = l.end - l.number
