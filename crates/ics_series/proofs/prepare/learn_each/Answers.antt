use Rattle.std.proofs.Common.{map, sym, ◌∙◌, subst}
use Rattle.ics_file.specs.File.{AreEventsOf}
use Rattle.ics_file.specs.declared.events.FileEvents.{FileEvents}
use Rattle.ics_zone.specs.ZoneSaid.{zone_said}
use Rattle.ics_series.proofs.prepare.learn_each.Goals as goal

pub invariant_of-file : goal.invariant_of-file
invariant_of-file c = subst (λ (f : FileEvents). AreEventsOf (map zone_said f.zones) f.events) (c.file.view_is ∙ sym c.loop-k.invariant) c.file.invariant
