use Rattle.std.proofs.Common.{◌≤◌, ◌+◌, ◌-◌}
use Rattle.ics_rule.specs.Cursors.{place_of, IsCursorOf}
use Rattle.ics_period.specs.PeriodNumbers.{rules_end}
use Rattle.ics_zone.specs.Inner.Latest.{IsKnownLast}
use Rattle.ics_zone.proofs.kept.last_of_all.Given as goal

abbrev pub invariant-loop-known : goal.invariant-loop-known
invariant-loop-known l = record {
  known : IsKnownLast l.fn.rule rules_end l.known;
  own : IsCursorOf l.fn.rule l.cursor;
  behind : place_of l.cursor ≤ l.known.last + 1;
}

abbrev pub decreases-loop-known : goal.decreases-loop-known
decreases-loop-known l = l.known.end - l.known.last
