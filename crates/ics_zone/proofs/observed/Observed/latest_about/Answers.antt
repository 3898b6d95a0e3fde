use Rattle.ics_zone.proofs.ZoneSteps.{all_sound}
use Rattle.ics_zone.proofs.observed.Observed.latest_about.Goals as goal

pub latest_within-latest-requires : goal.latest_within-latest-requires
latest_within-latest-requires c = rw c.deref.ensures.value (all_sound _ _ c.self.invariant.asked)

pub latest_of-requires : goal.latest_of-requires
latest_of-requires c = rw c.deref-2.ensures.value (all_sound _ _ c.self.invariant.asked)
