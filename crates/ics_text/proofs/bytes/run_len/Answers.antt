use Rattle.std.proofs.Common.{arith}
use Rattle.std.proofs.lemmas.Grind.{common_steps}
use Rattle.ics_text.proofs.bytes.run_len.Goals as goal

pub returns-then-not-has-clause-value : goal.returns-then-not-has-clause-value
returns-then-not-has-clause-value g c = grind (arith, common_steps)

pub returns-then-not-has-2-clause-value : goal.returns-then-not-has-2-clause-value
returns-then-not-has-2-clause-value g c = grind (arith, common_steps)

pub returns-then-not-has-3-clause-value : goal.returns-then-not-has-3-clause-value
returns-then-not-has-3-clause-value g c = grind (arith, common_steps)

pub returns-then-not-has-4-clause-value : goal.returns-then-not-has-4-clause-value
returns-then-not-has-4-clause-value g c = grind (arith, common_steps)

pub returns-then-not-has-5-clause-value : goal.returns-then-not-has-5-clause-value
returns-then-not-has-5-clause-value g c = grind (arith, common_steps)

pub returns-then-not-has-6-clause-value : goal.returns-then-not-has-6-clause-value
returns-then-not-has-6-clause-value g c = grind (arith, common_steps)

pub returns-then-not-has-7-clause-value : goal.returns-then-not-has-7-clause-value
returns-then-not-has-7-clause-value g c = grind (arith, common_steps)

pub returns-then-not-has-8-clause-value : goal.returns-then-not-has-8-clause-value
returns-then-not-has-8-clause-value g c = grind (arith, common_steps)

pub returns-clause-value : goal.returns-clause-value
returns-clause-value g c = grind (arith, common_steps)
