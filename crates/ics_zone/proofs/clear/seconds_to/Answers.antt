use Rattle.std.proofs.Common.{arith}
use Rattle.std.proofs.lemmas.Int.{ints, clamps}
use Rattle.ics_zone.proofs.clear.seconds_to.Goals as goal

pub returns-clause-first : goal.returns-clause-first
returns-clause-first c = λ k h. omega (arith, ints, clamps)

pub returns-clause-all : goal.returns-clause-all
returns-clause-all c = λ k low h. omega (arith, ints, clamps)
