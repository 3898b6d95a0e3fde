use Rattle.std.proofs.lemmas.Int.{to_z-of_z}
use Rattle.ics_zone.proofs.onsets.Onsets.gap_again.Goals as goal

pub returns-clause-last : goal.returns-clause-last
returns-clause-last c = simp (to_z-of_z, c.ranges.moment) at c.gap_later.ensures.last
