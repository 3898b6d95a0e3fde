use Rattle.std.proofs.Common.{◌≡◌, ◌≤◌, ◌-◌, ℕ}
use Rattle.ics_fields.specs.Locals.{number}
use Rattle.ics_rule.specs.Cursors.{HasLooked, looks_from, IsCursorOf}
use Rattle.ics_rule.specs.Next.{NoneKept}
use Rattle.ics_starts.proofs.kept_locals.KeptLocals.next.Given as goal

-- none is kept before the place, which is not past the end
abbrev pub invariant-loop-cursor : goal.invariant-loop-cursor
invariant-loop-cursor l = record {
  rule : l.self.rule ≡ l.initial.self.rule;
  event : l.self.event ≡ l.initial.self.event;
  none : NoneKept l.initial.self.rule l.initial.cursor.place l.cursor.place;
  later : l.initial.cursor.place ≤ l.cursor.place;
  within : l.cursor.place ≤ l.end;
  own : IsCursorOf l.initial.self.rule l.cursor.cursor;
  looked : (from b : ℕ) → l.cursor.place ≤ b
      → HasLooked l.initial.self.rule l.initial.cursor.cursor (looks_from l.initial.self.rule.parts.count (number l.initial.self.rule.start) from) b
      → HasLooked l.initial.self.rule l.cursor.cursor (looks_from l.initial.self.rule.parts.count (number l.initial.self.rule.start) from) b;
}

abbrev pub decreases-loop-cursor : goal.decreases-loop-cursor
decreases-loop-cursor l = l.end - l.cursor.place
