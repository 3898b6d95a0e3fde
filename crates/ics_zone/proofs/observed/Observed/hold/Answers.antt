use Rattle.std.proofs.lemmas.Grind.{common_steps}
use Rattle.std.proofs.Common.{arith}
use Rattle.ics_zone.proofs.observed.Observed.hold.Goals as goal

pub returns-then-len-max : goal.returns-then-len-max
returns-then-len-max c = grind (arith, common_steps)
