use Rattle.std.proofs.Common.{◌≤◌, length}
use Rattle.ics_text.proofs.cutting.last_cut.Given as goal

abbrev pub invariant-runs : goal.invariant-runs
invariant-runs l = record { within : l.end ≤ length l.bytes }

abbrev pub decreases-runs : goal.decreases-runs
decreases-runs l = l.end

abbrev pub invariant-places : goal.invariant-places
invariant-places l = record { within : l.end ≤ length l.bytes }

abbrev pub decreases-places : goal.decreases-places
decreases-places l = l.end
