use Rattle.std.proofs.Common.{◌+◌, ◌*◌, ◌-◌, ◌≤◌, length}
use Rattle.ics_zone.specs.Inner.Answers.{AreAnswers}
use Rattle.ics_zone.proofs.observed.Observed.answers.Given as goal

abbrev pub invariant-loop-k : goal.invariant-loop-k
invariant-loop-k l = record { inside : l.k ≤ length l.locals; short : l.days ≤ 32; right : AreAnswers l.fn.self.said.items l.answers.items }

abbrev pub decreases-loop-k : goal.decreases-loop-k
decreases-loop-k l = (length l.locals - l.k) * 64 + l.days
