use Rattle.std.proofs.Common.{ℤ}
use Rattle.ics_zone.specs.Inner.Answers.{AreAnswersBy}
use Rattle.ics_zone.specs.Inner.Sweeps.{IsSwept}
use Rattle.ics_zone.specs.Inner.Walks.{IsShort}
use Rattle.ics_zone.proofs.answers.add_settled.Given as goal

abbrev pub invariant-loop-k : goal.invariant-loop-k
invariant-loop-k l = (offset : ℤ → ℤ) → IsShort offset → IsSwept offset l.locals l.reach l.seen → AreAnswersBy offset l.initial.answers.items
    → AreAnswersBy offset l.answers.items
