use Rattle.std.proofs.Common.{arith}
use Rattle.std.proofs.lemmas.Int.{ints}
use Rattle.ics_starts.proofs.RuleStepLemmas.{next-years}
use Rattle.ics_starts.proofs.rule_starts.RuleStarts.next_shown.Goals as goal

pub overflow_sub-result : goal.overflow_sub-result
overflow_sub-result c = omega (arith, ints, next-years c.args.self.now, c.args.self.now.stretched.short)

pub returns : goal.returns
returns c = omega (arith, ints, next-years c.args.self.now, c.args.self.now.stretched.short)
