-- The pass over a line whose property is not read, and over the next line.
use Rattle.std.specs.Prelude.{◌≡◌, ℕ, List, ◌∷◌, Some, Result, Ok, Err, IfOk}
use Rattle.ics_text.specs.ContentLines.{content_of}
use Rattle.ics_text.specs.Unfolded.{Line}
use Rattle.ics_values.specs.KeptTexts.{KeptTexts, all_texts}
use Rattle.ics_components.specs.declared.first_round.FirstRound.{FirstRound}
use Rattle.ics_components.specs.declared.refused.Refused.{Refused}
use Rattle.ics_components.specs.declared.refused.Refused.TheVariants as refused
use Rattle.ics_components.specs.Inner.GoingBehind.{GoesBehind}
use Rattle.ics_components.specs.Parted.{Reads, read_on}

-- ONE LINE, as the steps of the pass read it where all texts are kept. One that has a fault leaves what is gathered as it is.
abbrev pub ReadsOn : KeptTexts → Result Unit Refused → Line → FirstRound → FirstRound → Type 0
ReadsOn keep (Ok taken) line round next =
    keep ≡ all_texts → read_on line.number (content_of line.bytes) (Reads round.stack round.parsed) ≡ Reads next.stack next.parsed
ReadsOn keep (Err refused.Memory) line round next = Unit {0}
ReadsOn keep (Err (refused.Fault kind)) line round next = next.parsed ≡ round.parsed

-- THE FIRST OF THE LINES, whose number that is: the pass goes on behind it, or its fault is the answer.
pub record GoesOn (keep : KeptTexts) (result : Result Unit Refused) (number : ℕ) (lines rest : List Line) (round next : FirstRound) : Type 0 where
  pub line : Line
  pub first : lines ≡ line ∷ rest
  pub is : line.number ≡ number
  pub goes : GoesBehind keep result line round next
  pub reads : ReadsOn keep result line round next
  pub last : IfOk result (λ _. next.last ≡ Some number)
