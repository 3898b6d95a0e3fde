use Rattle.std.proofs.lemmas.Int.{ints}
use Rattle.std.proofs.lemmas.Grind.{common_steps}
use Rattle.std.proofs.Common.{arith}
use Rattle.khal_list.proofs.window.second_at.Goals as goal

pub returns-clause-ends : goal.returns-clause-ends
returns-clause-ends c = grind (ints, arith, common_steps)
