use Rattle.std.proofs.Common.{◌≡◌, ◌-◌, ◌+◌}
use Rattle.ics_rule.specs.Cursors.{place_of, IsCursorOf}
use Rattle.ics_zone.specs.Inner.Latest.{IsKnownLast}
use Rattle.ics_zone.proofs.kept.last_from.Given as goal

abbrev pub invariant-loop-next : goal.invariant-loop-next
invariant-loop-next l = record {
  known : IsKnownLast l.fn.rule l.fn.bound l.known;
  own : IsCursorOf l.fn.rule l.cursor;
  behind : place_of l.cursor ≡ l.known.last + 1;
}

abbrev pub decreases-loop-next : goal.decreases-loop-next
decreases-loop-next l = l.known.end - l.known.last
