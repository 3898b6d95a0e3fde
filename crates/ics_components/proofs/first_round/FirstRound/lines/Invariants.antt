use Rattle.std.proofs.Common.{◌≡◌, ℕ, List, ◌+◌, ◌<◌, ◌^◌, ◌++◌, length, IfSome}
use Rattle.ics_text.specs.Parts.{last_number, lines_left}
use Rattle.ics_text.specs.Unfolded.{Line, Within}
use Rattle.ics_values.specs.KeptTexts.{all_texts}
use Rattle.ics_components.specs.KeptPass.{pass_on}
use Rattle.ics_components.specs.PlacedLines.{Open}
use Rattle.ics_components.proofs.ReadTo.{HasRead}
use Rattle.ics_components.proofs.first_round.FirstRound.lines.Given as goal

abbrev pub invariant-lines : goal.invariant-lines
invariant-lines l = record {
  same : (rest : List Line) → pass_on l.keep l.self (lines_left l.part ++ rest) ≡ pass_on l.keep l.fn.self (lines_left l.fn.part ++ rest);
  fit : (n : ℕ) × (n + 1 < 2 ^ 64) × Within n (lines_left l.part);
  read : l.keep ≡ all_texts → (path : List Open) → HasRead path (lines_left l.fn.part) (lines_left l.part) l.fn.self l.self;
  last : IfSome l.self.last (λ n. n + 1 < 2 ^ 64);
  counted : last_number l.part ≡ last_number l.fn.part;
}

abbrev pub decreases-lines : goal.decreases-lines
decreases-lines l = length (lines_left l.part)
