use Rattle.std.proofs.Common.{arith}
use Rattle.std.proofs.lemmas.Int.{int_min_is, ints}
use Rattle.ics_starts.proofs.listed.lesser_past.Goals as goal

pub returns-then-moment-end-clause-second : goal.returns-then-moment-end-clause-second
returns-then-moment-end-clause-second c = λ late. absurd (omega (arith, ints, c.if-moment-end.true, late, c.ranges.moment, c.ranges.end))

pub returns-else-moment-end-clause-first : goal.returns-else-moment-end-clause-first
returns-else-moment-end-clause-first c = omega (arith, ints, int_min_is, c.min.ensures, c.ranges.least, c.ranges.moment)

pub returns-else-moment-end-clause-second : goal.returns-else-moment-end-clause-second
returns-else-moment-end-clause-second c = λ late. omega (arith, ints, int_min_is, c.min.ensures, c.ranges.least, c.ranges.moment)
