use Rattle.std.proofs.Common.{arith}
use Rattle.std.proofs.lemmas.Grind.{common_steps}
use Rattle.khal_words.proofs.format.next_piece.Goals as goal

pub returns-in-125-clause-some : goal.returns-in-125-clause-some
returns-in-125-clause-some g c = grind (arith, common_steps)

pub returns-in-123-clause-some : goal.returns-in-123-clause-some
returns-in-123-clause-some g c = grind (arith, common_steps)

pub returns-in-123-clause-none : goal.returns-in-123-clause-none
returns-in-123-clause-none g c = grind (arith, common_steps)

pub returns-in-len1-up-clause-some : goal.returns-in-len1-up-clause-some
returns-in-len1-up-clause-some g c = grind (arith, common_steps)
