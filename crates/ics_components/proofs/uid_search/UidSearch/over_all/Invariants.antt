use Rattle.std.proofs.Common.{◌≡◌, length}
use Rattle.ics_components.specs.Inner.BareLines.{bare_over}
use Rattle.ics_components.specs.PlacedLines.{placed_from}
use Rattle.ics_components.proofs.uid_search.UidSearch.over_all.Given as goal

abbrev pub invariant-lines : goal.invariant-lines
invariant-lines l = bare_over l.self.path (placed_from l.self.path l.lines) ≡ bare_over l.fn.self.path (placed_from l.fn.self.path l.fn.lines)

abbrev pub decreases-lines : goal.decreases-lines
decreases-lines l = length l.lines
