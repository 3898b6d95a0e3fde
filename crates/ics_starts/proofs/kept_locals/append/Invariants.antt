use Rattle.ics_period.specs.Recurrence.{Recurrence}
use Rattle.ics_starts.specs.Inner.KeptFinds.{AreFinds}
use Rattle.ics_starts.proofs.kept_locals.append.Given as goal

-- all that was added so far are finds
abbrev pub invariant-loop-at : goal.invariant-loop-at
invariant-loop-at l = (rule : Recurrence) → AreFinds rule l.initial.finds.items → AreFinds rule l.more → AreFinds rule l.finds.items
