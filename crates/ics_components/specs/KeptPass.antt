-- The pass over the lines with the components that are open, where some texts are not kept.
use Rattle.std.specs.Prelude.{ℕ, List, [], ◌∷◌, Option, Some, None, Result, Err, if◌then◌else◌}
use Rattle.ics_text.specs.ContentLines.{Parts, content_of}
use Rattle.ics_text.specs.Unfolded.{Line, begins_with_fold, unfolded}
use Rattle.ics_values.specs.KeptTexts.{KeptTexts}
use Rattle.ics_components.specs.declared.fault.Fault.{Fault}
use Rattle.ics_components.specs.declared.fault.FaultKind.TheVariants as kind
use Rattle.ics_components.specs.declared.first_round.FirstRound.{FirstRound}
use Rattle.ics_components.specs.declared.frame.Frame.{Frame}
use Rattle.ics_components.specs.FirstFault.{bad_fold}
use Rattle.ics_components.specs.Known.{read_name}
use Rattle.ics_components.specs.Lines.{fault_on, behind, passing}
use Rattle.ics_components.specs.ParsedFileSeen.{ParsedFileSeen}
use Rattle.ics_components.specs.ParsedFiles.{and_line, nothing_parsed}
use Rattle.ics_components.specs.Pass.{at_end, bottom, on_line, unless}

-- A line whose text is not kept is passed as one whose property is not read.
abbrev pub on_kept : KeptTexts → ℕ → Option Parts → List Frame → ParsedFileSeen → (List Frame → ParsedFileSeen → Result ParsedFileSeen Fault) →
    Result ParsedFileSeen Fault
on_kept keep number None frames had later = Err (record { line = number; kind = kind.BadLine })
on_kept keep number (Some c) frames had later =
    on_line number (fault_on (read_name keep c) c frames)
    (later (behind number (read_name keep c) c frames) (and_line number (passing (read_name keep c) c frames) had))

abbrev pub kept_pass : KeptTexts → List Frame → Option ℕ → ParsedFileSeen → List Line → Result ParsedFileSeen Fault
kept_pass keep frames last had [] = unless (at_end frames last) had
kept_pass keep frames last had (line ∷ lines) =
    on_kept keep line.number (content_of line.bytes) frames had (λ frames had. kept_pass keep frames (Some line.number) had lines)

-- the pass over the lines that are left
abbrev pub pass_on : KeptTexts → FirstRound → List Line → Result ParsedFileSeen Fault
pass_on keep round lines = kept_pass keep round.stack round.last round.parsed lines

-- What the first round gathers of a file where these texts are kept, or its first fault.
abbrev pub kept_of : KeptTexts → List ℕ → Result ParsedFileSeen Fault
kept_of keep file = if begins_with_fold file then Err bad_fold else kept_pass keep (bottom ∷ []) None nothing_parsed (unfolded file)
