use Rattle.ics_file.proofs.KeptLemmas.{events-kept}
use Rattle.ics_file.proofs.events.FileEvents.kept.Goals as goal

pub invariant_of-result : goal.invariant_of-result
invariant_of-result c = rw c.events_kept.ensures (events-kept c.args.keep _ _ c.self.invariant)
