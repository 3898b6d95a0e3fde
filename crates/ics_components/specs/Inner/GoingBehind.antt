-- The pass over a line, and over the lines of a part of a file.
use Rattle.std.specs.Prelude.{◌≡◌, ℕ, List, ◌∷◌, ◌++◌, Result, Ok, Err}
use Rattle.ics_text.specs.Unfolded.{Line}
use Rattle.ics_values.specs.KeptTexts.{KeptTexts}
use Rattle.ics_components.specs.declared.fault.FileFault.{FileFault}
use Rattle.ics_components.specs.declared.fault.FileFault.TheVariants as file_fault
use Rattle.ics_components.specs.declared.first_round.FirstRound.{FirstRound}
use Rattle.ics_components.specs.declared.refused.Refused.{Refused}
use Rattle.ics_components.specs.declared.refused.Refused.TheVariants as refused
use Rattle.ics_components.specs.KeptPass.{pass_on}

-- ONE LINE: the pass goes on behind it, or its fault is the answer.
abbrev pub GoesBehind : KeptTexts → Result Unit Refused → Line → FirstRound → FirstRound → Type 0
GoesBehind keep (Ok taken) line round behind = (lines : List Line) → pass_on keep round (line ∷ lines) ≡ pass_on keep behind lines
GoesBehind keep (Err refused.Memory) line round behind = Unit {0}
GoesBehind keep (Err (refused.Fault kind)) line round behind = (lines : List Line) →
    pass_on keep round (line ∷ lines) ≡ Err (record { line = line.number; kind = kind })

-- THE LINES OF A PART: the pass goes on behind them, whatever comes, or the fault of one of them is the answer.
abbrev pub GoesOver : KeptTexts → Result ℕ FileFault → List Line → FirstRound → FirstRound → Type 0
GoesOver keep (Ok breaks) lines round behind = (rest : List Line) → pass_on keep round (lines ++ rest) ≡ pass_on keep behind rest
GoesOver keep (Err file_fault.Memory) lines round behind = Unit {0}
GoesOver keep (Err (file_fault.At number kind)) lines round behind = (rest : List Line) →
    pass_on keep round (lines ++ rest) ≡ Err (record { line = number; kind = kind })
