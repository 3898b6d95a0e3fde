use Rattle.std.proofs.Common.{rules, arith, w64}
use Rattle.std.proofs.lemmas.Int.{ints, to_z-of_z}
use Rattle.ics_zone.proofs.stretch.Stretch.past.Goals as goal

pub returns-clause-passed : goal.returns-clause-passed
returns-clause-passed c =
    rw (to_z-of_z w64 c.max.result (search rules)) (omega (arith, ints, c.max.ensures.other_bound, c.max-passed.ensures.other_bound))
