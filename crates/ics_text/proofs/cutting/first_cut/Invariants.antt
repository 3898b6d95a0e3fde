use Rattle.std.proofs.Common.{◌-◌, ◌≤◌, length}
use Rattle.ics_text.proofs.cutting.first_cut.Given as goal

abbrev pub invariant-runs : goal.invariant-runs
invariant-runs l = record { within : l.at ≤ length l.piece }

abbrev pub decreases-runs : goal.decreases-runs
decreases-runs l = length l.piece - l.at

abbrev pub invariant-places : goal.invariant-places
invariant-places l = record { within : l.at ≤ length l.piece }

abbrev pub decreases-places : goal.decreases-places
decreases-places l = length l.piece - l.at
