use Rattle.std.proofs.Common.{◌≡◌, length}
use Rattle.ics_components.specs.Inner.FrontedRound.{fronted_over}
use Rattle.ics_components.specs.PlacedLines.{placed_from}
use Rattle.ics_components.proofs.parts_round.PartsRound.over_front.Given as goal

abbrev pub invariant-lines : goal.invariant-lines
invariant-lines l =
    fronted_over (record { round = l.self; front = l.front }) (placed_from l.self.path l.lines)
    ≡ fronted_over (record { round = l.fn.self; front = l.fn.front }) (placed_from l.fn.self.path l.fn.lines)

abbrev pub decreases-lines : goal.decreases-lines
decreases-lines l = length l.lines
