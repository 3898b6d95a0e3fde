use Rattle.std.proofs.Common.{arith}
use Rattle.std.proofs.lemmas.Grind.{common_steps}
use Rattle.std.proofs.lemmas.List.{take_more_same}
use Rattle.ics_values.proofs.observance.are_same_locals.Goals as goal

pub loop-k-preserved : goal.loop-k-preserved
loop-k-preserved c = grind (arith, common_steps, take_more_same c.args.locals.now c.args.others.now c.loop-k.k c.index-locals-k.result)
