use Rattle.std.proofs.lemmas.Grind.{common_steps}
use Rattle.std.proofs.Common.{arith}
use Rattle.ics_series.proofs.chosen.overrides.Goals as goal

pub loop-version-preserved : goal.loop-version-preserved
loop-version-preserved c = grind (arith, common_steps)

pub returns : goal.returns
returns c = grind (arith, common_steps)
