use Rattle.std.proofs.Common.{◌≡◌, ◌++◌, None, drop}
use Rattle.ics_listing.specs.StartOrder.{firsts_after}
use Rattle.ics_listing.proofs.listed_starts.firsts.Given as goal

abbrev pub invariant-loop-start : goal.invariant-loop-start
invariant-loop-start l = l.firsts.items ++ firsts_after l.last (drop l.start-index l.starts) ≡ firsts_after None l.starts
