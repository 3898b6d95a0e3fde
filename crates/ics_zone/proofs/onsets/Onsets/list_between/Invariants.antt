use Rattle.std.proofs.Common.{◌-ℤ◌}
use Rattle.ics_zone.specs.ZoneOffsets.{natural}
use Rattle.ics_zone.specs.Inner.OnsetSets.{Has}
use Rattle.ics_zone.proofs.FoundLemmas.{AreListed}
use Rattle.ics_zone.proofs.onsets.Onsets.list_between.Given as goal

abbrev pub invariant-loop-at : goal.invariant-loop-at
invariant-loop-at l = AreListed (Has l.self) l.fn.from l.at l.fn.to l.found.items

abbrev pub decreases-loop-at : goal.decreases-loop-at
decreases-loop-at l = natural (l.fn.to -ℤ l.at)
