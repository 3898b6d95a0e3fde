use Rattle.ics_zone.specs.Inner.Answers.{AreAnswers}
use Rattle.ics_zone.proofs.observed.Observed.each_answer.Given as goal

abbrev pub invariant-loop-k : goal.invariant-loop-k
invariant-loop-k l = AreAnswers l.fn.self.said.items l.answers.items
