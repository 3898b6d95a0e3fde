use Rattle.std.proofs.Common.{◌≤◌, ◌-◌, ℕ}
use Rattle.ics_fields.specs.Locals.{number}
use Rattle.ics_rule.specs.Cursors.{looks_from, place_of, HasLooked, IsCursorOf}
use Rattle.ics_starts.proofs.mark.Mark.moved_to.Given as goal

-- the cursor is not past the midnight, and has looked at no period past it
abbrev pub invariant-loop-cursor : goal.invariant-loop-cursor
invariant-loop-cursor l = record {
  own : IsCursorOf l.rule l.cursor;
  place : place_of l.cursor ≤ number l.from;
  looked : (before : ℕ) → number l.from ≤ before
      → HasLooked l.rule l.cursor (looks_from l.rule.parts.count (number l.rule.start) (number l.fn.self.from)) before;
}

abbrev pub decreases-loop-cursor : goal.decreases-loop-cursor
decreases-loop-cursor l = number l.from - place_of l.cursor
