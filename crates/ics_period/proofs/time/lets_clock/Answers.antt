use Rattle.std.proofs.lemmas.Grind.{common_steps}
use Rattle.std.proofs.Common.{arith}
use Rattle.ics_period.proofs.time.lets_clock.Goals as goal

pub returns : goal.returns
returns c = grind (arith, common_steps)
