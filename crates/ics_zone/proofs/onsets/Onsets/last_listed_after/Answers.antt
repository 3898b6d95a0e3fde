use Rattle.std.proofs.Common.{arith, w64}
use Rattle.std.proofs.lemmas.Int.{ints, to_z-of_z}
use Rattle.ics_zone.proofs.onsets.Onsets.last_listed_after.Goals as goal

pub returns-in_default : goal.returns-in_default
returns-in_default c = λ u h l.
    let late = rw (to_z-of_z w64 c.args.moment c.ranges.moment, c.in_default.is) at c.last_listed.ensures in
    absurd (let out = late u h in omega (arith, ints))
