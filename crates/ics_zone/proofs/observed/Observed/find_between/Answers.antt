use Rattle.ics_zone.proofs.ZoneSteps.{all_sound}
use Rattle.ics_zone.proofs.observed.Observed.find_between.Goals as goal

pub find_each-requires : goal.find_each-requires
find_each-requires c = rw c.deref_mut.ensures.value (all_sound _ _ c.self.invariant.asked)
