use Rattle.ics_zone.proofs.JumpLemmas.{held_moved}
use Rattle.ics_zone.proofs.observed.Observed.sort_held.Goals as goal

pub invariant_of-self : goal.invariant_of-self
invariant_of-self c = held_moved c.sort_unstable_by_key.ensures.permutation c.self.invariant
