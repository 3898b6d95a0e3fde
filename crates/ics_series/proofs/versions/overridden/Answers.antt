use Rattle.std.proofs.lemmas.Grind.{common_steps}
use Rattle.std.proofs.Common.{arith}
use Rattle.std.proofs.lemmas.Int.{ints}
use Rattle.ics_series.proofs.versions.overridden.Goals as goal

pub instant-requires : goal.instant-requires
instant-requires c = grind (arith, ints, common_steps)
