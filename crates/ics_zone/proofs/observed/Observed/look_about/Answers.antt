use Rattle.ics_zone.proofs.ZoneSteps.{all_sound}
use Rattle.ics_zone.proofs.observed.Observed.look_about.Goals as goal

pub look_on-requires-clause-sound : goal.look_on-requires-clause-sound
look_on-requires-clause-sound c = rw c.deref_mut.ensures.value (all_sound _ _ c.self.invariant.asked)
