use Rattle.std.proofs.Common.{◌≡◌, ℕ, ◌≤◌, ◌+◌, ◌-◌}
use Rattle.ics_rule.specs.Cursors.{place_of, IsCursorOf}
use Rattle.ics_period.specs.PeriodNumbers.{rules_end}
use Rattle.ics_zone.specs.Inner.Latest.{IsKnownLast}
use Rattle.ics_zone.proofs.kept.halve.Given as goal

abbrev pub invariant-loop-known : goal.invariant-loop-known
invariant-loop-known l = record {
  own : IsCursorOf l.rule l.cursor;
  behind : place_of l.cursor ≡ l.known.last + 1;
  end : l.known.end ≤ rules_end;
  known : (bound : ℕ) → IsKnownLast l.rule bound l.fn.known → IsKnownLast l.rule bound l.known;
}

abbrev pub decreases-loop-known : goal.decreases-loop-known
decreases-loop-known l = l.known.end - l.known.last
