use Rattle.std.proofs.Common.{◌-◌, length}
use Rattle.ics_starts.proofs.kept_locals.reaching.Given as goal

abbrev pub decreases-loop-find : goal.decreases-loop-find
decreases-loop-find l = length l.finds - l.reaching
