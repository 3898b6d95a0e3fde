use Rattle.std.proofs.lemmas.Grind.{common_steps}
use Rattle.std.proofs.Common.{arith}
use Rattle.ics_listing.proofs.listed_starts.ListedStarts.pass.Goals as goal

pub returns-then-first-start : goal.returns-then-first-start
returns-then-first-start c = grind (arith, common_steps)

pub returns-else-first-start : goal.returns-else-first-start
returns-else-first-start c = grind (arith, common_steps)

pub returns-in_default : goal.returns-in_default
returns-in_default c = grind (arith, common_steps)
