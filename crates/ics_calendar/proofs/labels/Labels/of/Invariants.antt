use Rattle.std.proofs.Common.{map}
use Rattle.ics_calendar.specs.Inner.Labels.{AreLabels}
use Rattle.ics_calendar.specs.Inner.PartsRead.{labelled, searched}
use Rattle.ics_calendar.specs.Inner.SharedFaults.{needed_by}
use Rattle.ics_calendar.proofs.labels.Labels.of.Given as goal

abbrev pub invariant-loop-event : goal.invariant-loop-event
invariant-loop-event l = AreLabels (labelled (needed_by l.shared) (map (searched l.are_alone) l.yielded)) l.labels
