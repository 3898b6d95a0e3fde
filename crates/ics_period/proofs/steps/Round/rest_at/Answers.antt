use Rattle.ics_period.proofs.StepsLemmas.{rest_reached}
use Rattle.ics_period.proofs.steps.Round.rest_at.Goals as goal

pub returns-then-own-self : goal.returns-then-own-self
returns-then-own-self c = λ s met. (rest_reached c.args.self.now c.args.begin s met).0 c.if-own-self.true

pub returns-else-own-self : goal.returns-else-own-self
returns-else-own-self c = λ s met. (rest_reached c.args.self.now c.args.begin s met).1 c.if-own-self.false
