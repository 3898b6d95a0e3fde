use Rattle.std.proofs.Common.{w64}
use Rattle.std.proofs.lemmas.Int.{to_z-of_z}
use Rattle.ics_zone.proofs.latest.latest_of.Goals as goal

pub returns-in-Some : goal.returns-in-Some
returns-in-Some c = λ zone all.
    (rw (to_z-of_z w64 c.args.moment c.ranges.moment, c.in-Some.is) at (c.latest_within.ensures zone all)).0
