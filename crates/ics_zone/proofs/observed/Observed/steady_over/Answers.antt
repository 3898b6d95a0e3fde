use Rattle.ics_zone.proofs.ZoneSteps.{all_sound}
use Rattle.ics_zone.proofs.observed.Observed.steady_over.Goals as goal

pub turns_after-requires : goal.turns_after-requires
turns_after-requires c = rw c.deref.ensures.value (all_sound _ _ c.self.invariant.asked)
