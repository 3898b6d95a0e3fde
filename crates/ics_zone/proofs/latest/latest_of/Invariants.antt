use Rattle.std.proofs.Common.{pos, ◌+ℤ◌, ◌≤ℤ◌}
use Rattle.ics_zone.specs.Observances.{epoch}
use Rattle.ics_zone.specs.ZoneOffsets.{natural}
use Rattle.ics_zone.proofs.latest.latest_of.Given as goal

abbrev pub invariant-loop-after : goal.invariant-loop-after
invariant-loop-after l = record { ahead : pos 1 ≤ℤ l.back }

abbrev pub decreases-loop-after : goal.decreases-loop-after
decreases-loop-after l = natural (l.after +ℤ pos epoch)
