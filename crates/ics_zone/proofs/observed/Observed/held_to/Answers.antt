use Rattle.ics_zone.proofs.ZoneSteps.{all_sound}
use Rattle.ics_zone.proofs.observed.Observed.held_to.Goals as goal

pub next_other-requires-clause-sound : goal.next_other-requires-clause-sound
next_other-requires-clause-sound c = rw c.deref.ensures.value (all_sound _ _ c.self.invariant.asked)
