use Rattle.std.proofs.lemmas.Grind.{common_steps}
use Rattle.std.proofs.Common.{arith}
use Rattle.ics_starts.proofs.lasting.days_lasting.Goals as goal

pub returns-in-Until-clause-least : goal.returns-in-Until-clause-least
returns-in-Until-clause-least c = grind (arith, common_steps)

pub returns-in-Lasting-clause-value : goal.returns-in-Lasting-clause-value
returns-in-Lasting-clause-value c = grind (arith, common_steps)
