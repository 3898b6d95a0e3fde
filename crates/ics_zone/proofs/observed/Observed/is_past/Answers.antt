use Rattle.std.proofs.Common.{arith}
use Rattle.std.proofs.lemmas.Int.{ints, to_z-of_z}
use Rattle.ics_zone.proofs.observed.Observed.is_past.Goals as goal

pub overflow_add-result : goal.overflow_add-result
overflow_add-result c = omega (arith, ints)

pub returns : goal.returns
returns c = let value = simp (to_z-of_z, c.ranges.moment) at c.offset.ensures.value in grind (arith, ints)
