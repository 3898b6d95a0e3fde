-- One pass over the lines with the components that are open, the innermost first, each with what has been read of it.
use Rattle.std.specs.Prelude.{ℕ, ◌+◌, Bool, true, false, List, [], ◌∷◌, Option, Some, None, Result, Ok, Err, if◌then◌else◌, ◌≡◌}
use Rattle.ics_text.specs.Unfolded.{Line, unfolded, begins_with_fold}
use Rattle.ics_text.specs.ContentLines.{Parts, content_of}
use Rattle.ics_components.specs.declared.component.Component.TheVariants as component
use Rattle.ics_components.specs.declared.fault.Fault.{Fault}
use Rattle.ics_components.specs.declared.fault.FaultKind.{FaultKind}
use Rattle.ics_components.specs.declared.fault.FileFault.{FileFault}
use Rattle.ics_components.specs.declared.fault.FileFault.TheVariants.{Memory, At}
use Rattle.ics_components.specs.declared.fault.FaultKind.TheVariants as kind
use Rattle.ics_components.specs.declared.frame.Frame.{Frame}
use Rattle.ics_components.specs.declared.builder.Builder.TheVariants as builder
use Rattle.ics_components.specs.ParsedFileSeen.{ParsedFileSeen}
use Rattle.ics_components.specs.FirstFault.{bad_fold}
use Rattle.ics_components.specs.ParsedFiles.{nothing_parsed, and_line}
use Rattle.ics_components.specs.Lines.{fault_on, behind, passing}
use Rattle.ics_components.specs.PlacedLines.{named}

-- below all components
abbrev pub bottom : Frame
bottom = record { component = component.Other []; calendar = 0; builder = builder.Elsewhere }

-- WHERE THE LINES END, given the number of the last one.
abbrev pub is_lowest : List Frame → Bool
is_lowest [] = true
is_lowest (f ∷ []) = true
is_lowest (f ∷ g ∷ gs) = false

abbrev pub at_end : List Frame → Option ℕ → Option Fault
at_end frames None = Some (record { line = 1; kind = kind.NotCalendar })
at_end frames (Some last) = if is_lowest frames then None else Some (record { line = last + 1; kind = kind.BadNesting })

-- THE PASS is the first round alone. It gathers what ends, and the checks of the second round.
abbrev pub unless : {X F : Type 0} → Option F → X → Result X F
unless (Some fault) answer = Err fault
unless None answer = Ok answer

abbrev pub on_line : ℕ → Option FaultKind → Result ParsedFileSeen Fault → Result ParsedFileSeen Fault
on_line number None later = later
on_line number (Some kind) later = Err (record { line = number; kind = kind })

abbrev pub on_content : ℕ → Option Parts → List Frame → ParsedFileSeen → (List Frame → ParsedFileSeen → Result ParsedFileSeen Fault) →
    Result ParsedFileSeen Fault
on_content number None frames had later = Err (record { line = number; kind = kind.BadLine })
on_content number (Some c) frames had later =
    on_line number (fault_on (named c) c frames) (later (behind number (named c) c frames) (and_line number (passing (named c) c frames) had))

abbrev pub pass : List Frame → Option ℕ → ParsedFileSeen → List Line → Result ParsedFileSeen Fault
pass frames last had [] = unless (at_end frames last) had
pass frames last had (line ∷ lines) = on_content line.number (content_of line.bytes) frames had (λ frames had. pass frames (Some line.number) had lines)

-- What the first round gathers of a file, or its first fault.
abbrev pub parsed_of : List ℕ → Result ParsedFileSeen Fault
parsed_of file = if begins_with_fold file then Err bad_fold else pass (bottom ∷ []) None nothing_parsed (unfolded file)

-- AN ANSWER, as it is seen: what is gathered, or the first fault, or that memory is refused.
abbrev pub Says : {X Y : Type 0} → (X → Y) → Result X FileFault → Result Y Fault → Type 0
Says seen (Ok x) said = said ≡ Ok (seen x)
Says seen (Err Memory) said = Unit {0}
Says seen (Err (At line kind)) said = said ≡ Err (record { line = line; kind = kind })
