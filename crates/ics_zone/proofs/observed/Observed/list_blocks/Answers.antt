use Rattle.std.proofs.Common.{◌∙◌, arith}
use Rattle.std.proofs.lemmas.Int.{ints}
use Rattle.ics_zone.proofs.observed.Observed.list_blocks.Goals as goal

pub loop-preserved : goal.loop-preserved
loop-preserved c = record { same = c.list_block.ensures ∙ c.loop.invariant.same; low = omega (arith, ints); high = omega (arith, ints) }
