use Rattle.std.proofs.lemmas.Grind.{common_steps}
use Rattle.std.proofs.Common.{arith}
use Rattle.ics_listing.proofs.tournament.first_below.Goals as goal

pub returns-then-goes_first-clause-lead : goal.returns-then-goes_first-clause-lead
returns-then-goes_first-clause-lead g c = grind (arith, common_steps)

pub returns-then-goes_first-clause-first : goal.returns-then-goes_first-clause-first
returns-then-goes_first-clause-first g c = grind (arith, common_steps)

pub returns-else-goes_first-clause-lead : goal.returns-else-goes_first-clause-lead
returns-else-goes_first-clause-lead g c = grind (arith, common_steps)

pub returns-else-goes_first-clause-first : goal.returns-else-goes_first-clause-first
returns-else-goes_first-clause-first g c = grind (arith, common_steps)

pub goes_first-requires-clause-one : goal.goes_first-requires-clause-one
goes_first-requires-clause-one g c = grind (arith, common_steps)

pub goes_first-requires-clause-other : goal.goes_first-requires-clause-other
goes_first-requires-clause-other g c = grind (arith, common_steps)
