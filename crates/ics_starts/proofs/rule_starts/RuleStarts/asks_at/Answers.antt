use Rattle.std.proofs.Common.{arith}
use Rattle.std.proofs.lemmas.Int.{ints}
use Rattle.ics_starts.proofs.RuleStepLemmas.{next-years}
use Rattle.ics_starts.proofs.rule_starts.RuleStarts.asks_at.Goals as goal

pub overflow_add-self : goal.overflow_add-self
overflow_add-self c = omega (arith, ints, next-years c.args.self.now)
