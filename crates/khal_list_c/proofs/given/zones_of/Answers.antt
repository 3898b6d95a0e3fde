use Rattle.std.proofs.Common.{arith}
use Rattle.std.proofs.lemmas.Grind.{common_steps}
use Rattle.khal_list_c.proofs.given.zones_of.Goals as goal

pub loop-file-preserved : goal.loop-file-preserved
loop-file-preserved c = grind (arith, common_steps)

pub returns-clause-zones : goal.returns-clause-zones
returns-clause-zones c = grind (arith, common_steps)
