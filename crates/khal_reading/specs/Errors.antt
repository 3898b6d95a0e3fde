-- What is written for a file that is not listed, or not whole: a line for each reason. The form is the program's own.
use Rattle.std.specs.Prelude.{ℕ, List, [], ◌∷◌, ◌++◌, Option, Some, None, codes}
use Rattle.std.specs.Fmt.{decimal}
use Rattle.std.specs.List.{flat_map}
use Rattle.ics_components.specs.FaultNames.{kind_name}
use Rattle.ics_components.specs.declared.fault.Fault.{Fault}
use Rattle.khal_reading.specs.Shown.{shown}

-- Why a file is not listed, or not whole: a fault, or none if it was not read.
abbrev pub Refusal : Type 0
Refusal = Option Fault

abbrev pub refusal_text : Refusal → List ℕ
refusal_text (Some fault) = codes "line " ++ (decimal fault.line ++ (codes ": " ++ kind_name fault.kind))
refusal_text None = codes "ReadFault"

-- `khal-list: NAME: line N: KIND` or `khal-list: NAME: ReadFault`, and LF
abbrev pub refusal_line : List ℕ → Refusal → List ℕ
refusal_line name refusal = codes "khal-list: " ++ (shown name ++ (codes ": " ++ (refusal_text refusal ++ 10 ∷ [])))

abbrev pub lines_of : List ℕ → List Refusal → List ℕ
lines_of name refusals = flat_map (refusal_line name) refusals
