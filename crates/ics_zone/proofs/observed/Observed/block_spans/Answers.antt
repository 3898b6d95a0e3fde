use Rattle.ics_zone.proofs.ZoneSteps.{all_sound}
use Rattle.ics_zone.proofs.observed.Observed.block_spans.Goals as goal

pub table_of-requires-clause-sound : goal.table_of-requires-clause-sound
table_of-requires-clause-sound c = rw c.deref.ensures.value (all_sound _ _ c.self.invariant.asked)
