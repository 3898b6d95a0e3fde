use Rattle.std.proofs.Common.{arith}
use Rattle.std.proofs.Math.Nat.{mod-lt}
use Rattle.ics_period.proofs.steps.common_divisor.Goals as goal

pub loop-rest-smaller : goal.loop-rest-smaller
loop-rest-smaller c = let less = mod-lt c.loop-rest.divisor c.loop-rest-test.true in grind arith
