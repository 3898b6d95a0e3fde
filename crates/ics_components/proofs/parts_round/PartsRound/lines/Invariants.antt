use Rattle.std.proofs.Common.{◌≡◌, length}
use Rattle.std.specs.Option.{option_copied}
use Rattle.ics_components.specs.Parted.{lines_with}
use Rattle.ics_components.specs.Inner.PartsPass.{round_over}
use Rattle.ics_components.specs.PlacedLines.{placed_from}
use Rattle.ics_components.proofs.parts_round.PartsRound.lines.Given as goal

abbrev pub invariant-lines : goal.invariant-lines
invariant-lines l =
    round_over l.self (lines_with (option_copied l.fn.file) (placed_from l.self.path l.lines))
    ≡ round_over l.fn.self (lines_with (option_copied l.fn.file) (placed_from l.fn.self.path l.fn.lines))

abbrev pub decreases-lines : goal.decreases-lines
decreases-lines l = length l.lines
