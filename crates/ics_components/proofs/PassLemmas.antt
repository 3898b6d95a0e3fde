-- One pass with the components that are open finds the first fault of round one, and gathers what the lines say.
use Rattle.std.proofs.Common.{◌≡◌, ℕ, ◌+◌, ◌<◌, List, [], ◌∷◌, ◌++◌, refl, sym, ap, ◌∙◌, append_assoc, arith, cond, Option, Some, None}
use Rattle.std.specs.Prelude.{find}
use Rattle.std.proofs.lemmas.List.{append-nil}
use Rattle.std.proofs.lemmas.List.Elements.{All-nil, All-push, All-weaker}
use Rattle.ics_text.specs.Unfolded.{Line, Rises}
use Rattle.ics_text.specs.ContentLines.{Parts, content_of}
use Rattle.ics_components.specs.declared.fault.FaultKind.{FaultKind}
use Rattle.ics_components.specs.declared.fault.FaultKind.TheVariants.{BadNesting}
use Rattle.ics_components.specs.declared.frame.Frame.{Frame}
use Rattle.ics_components.specs.declared.parsed_file.CalendarEvent.{CalendarEvent}
use Rattle.ics_components.specs.declared.parsed_file.CalendarZone.{CalendarZone}
use Rattle.ics_components.specs.declared.parsed_file.LineCheck.{LineCheck}
use Rattle.ics_components.specs.declared.deferred_check.DeferredCheck.{DeferredCheck}
use Rattle.ics_components.specs.PlacedLines.{Placed, named, path_behind, placed_from, innermost, lines_in, beside}
use Rattle.ics_components.specs.Faults.{stands, kinds}
use Rattle.ics_components.specs.FirstFault.{found, first_from, first_fault, fault_at_end, end_fault, no_open}
use Rattle.ics_components.specs.ParsedFileSeen.{ParsedFileSeen}
use Rattle.ics_components.specs.ParsedFiles.{nothing_parsed, checks_of, and_line}
use Rattle.ics_components.specs.Lines.{check_in, behind, passing}
use Rattle.ics_components.specs.Pass.{bottom, is_lowest, at_end, unless, on_line, on_content, pass}
use Rattle.ics_components.proofs.Table.{parts, any-part, frame_of, IsAsked, least-same}
use Rattle.ics_components.proofs.Bundles.{Bundle, Keeps, Before, falls, open_of, opens, opens-behind, top_beside, zone-beside}
use Rattle.ics_components.proofs.Bundles.{bundles_behind, keeps}
use Rattle.ics_components.proofs.Frames.{frames_of, with, Closes, frames-behind, fault-top, passing-top}
use Rattle.ics_components.proofs.Order.{last-more, falls-behind, lines_in-whole, ended_from, nested}
use Rattle.ics_components.proofs.EndOrder.{events, zones, picked-same, IsMatched}

-- WHERE THE LINES END.
lowest-is : (whole : List Placed) (bundles : List Bundle) → is_lowest (frames_of whole bundles) ≡ no_open (opens bundles)
lowest-is whole [] = refl
lowest-is whole (b ∷ []) = refl
lowest-is whole (b ∷ d ∷ ds) = refl

pub end-is-known : (whole before : List Placed) (l : Placed) (bundles : List Bundle) → opens bundles ≡ path_behind l →
    at_end (frames_of whole bundles) (Some l.number) ≡ fault_at_end (before ++ l ∷ [])
end-is-known whole before l bundles at =
    ap (λ t. cond t None (Some (record { line = l.number + 1; kind = BadNesting }))) (lowest-is whole bundles ∙ ap no_open at)
    ∙ sym (ap end_fault (last-more before l))

-- WHAT IS GATHERED of the lines, given those before.
abbrev pub later_by : Option Parts → Frame → Option DeferredCheck
later_by None f = None
later_by (Some parts) f = check_in (named parts) parts f

abbrev pub checks_on : List Placed → List Placed → Placed → List LineCheck
checks_on whole beside line = checks_of line.number (later_by line.content (frame_of whole line.path beside))

abbrev pub checks_from : List Placed → List Placed → List Placed → List LineCheck
checks_from whole before [] = []
checks_from whole before (line ∷ lines) = checks_on whole (beside before line) line ++ checks_from whole (before ++ line ∷ []) lines

abbrev pub lists : List CalendarZone → List CalendarEvent → List LineCheck → ParsedFileSeen
lists zs es ws = record { zones = zs; events = es; checks = ws }

abbrev pub parsed_from : List Placed → ParsedFileSeen → List Placed → List Placed → ParsedFileSeen
parsed_from whole had before lines =
    lists (had.zones ++ ended_from (zones whole) before lines) (had.events ++ ended_from events before lines) (had.checks ++ checks_from whole before lines)

-- THE PASS.
-- Where the pass is: on a line behind those before it, with a bundle of lines for each component that is open.
pub record IsOn (whole before : List Placed) (bundles : List Bundle) (line : Line) (o : Option Parts) (lines : List Line) : Type 0 where
  pub parts : whole ≡ before ++ with line (opens bundles) o ∷ placed_from (path_behind (with line (opens bundles) o)) lines
  pub kept : Keeps before [] bundles
  pub earlier : Before line.number before
  pub inner : innermost (opens bundles) < line.number
  pub rises : Rises line.number lines

-- the same before the first of some lines
abbrev pub IsAt : List Placed → List Placed → List Bundle → List Line → Type 0
IsAt whole before bundles [] = Unit {0}
IsAt whole before bundles (line ∷ lines) = IsOn whole before bundles line (content_of line.bytes) lines

pub at-next : {whole before : List Placed} {bundles : List Bundle} (line : Line) (o : Option Parts) (lines : List Line) →
    IsOn whole before bundles line o lines →
    IsAt whole (before ++ with line (opens bundles) o ∷ []) (bundles_behind (with line (opens bundles) o) bundles) lines
at-next line o [] on = tt
at-next {before = before} {bundles = bundles} line o (m ∷ ms) on =
    let l : Placed = with line (opens bundles) o in
    let moved = opens-behind l bundles refl in
    let falls = falls-behind l (falls before [] bundles on.kept) on.inner in
    record {
      parts = rw moved (on.parts ∙ sym (append_assoc before (l ∷ []) (placed_from (path_behind l) (m ∷ ms))));
      kept = keeps before l bundles on.earlier on.inner refl on.kept;
      earlier =
          All-push (λ k. innermost k.path < m.number) before l
          (All-weaker (λ k. innermost k.path < l.number) (λ k. innermost k.path < m.number) (λ k h. omega (arith, h, on.rises.0)) before on.earlier)
          (omega (arith, on.inner, on.rises.0));
      inner = rw moved (omega (arith, falls.1, on.rises.0));
      rises = on.rises.1;
    }

abbrev Known : List Line → Type 0
Known lines =
    (whole before : List Placed) (bundles : List Bundle) (last : Option ℕ) (had : ParsedFileSeen) →
    IsAt whole before bundles lines → at_end (frames_of whole bundles) last ≡ fault_at_end before →
    pass (frames_of whole bundles) last had lines
    ≡ unless (first_from stands fault_at_end before (placed_from (opens bundles) lines)) (parsed_from whole had before (placed_from (opens bundles) lines))

-- the lines of a component all stand before its END
closes-here : (whole before : List Placed) (line : Line) (o : Option Parts) (bundles : List Bundle) {lines : List Line} →
    IsOn whole before bundles line o lines → Closes whole before (with line (opens bundles) o) bundles
closes-here whole before line o [] on = tt
closes-here whole before line o (f ∷ fs) {lines} on =
    λ e. ap (lines_in f.begin.number) on.parts
    ∙ lines_in-whole before (with line (opens (f ∷ fs)) o) lines (ap (λ p. open_of f ∷ p) (sym e)) (on.inner, falls before [] (f ∷ fs) on.kept) on.rises

-- A line with parts, before lines of which it is known.
module _ (line : Line) {lines : List Line} (again : Known lines) (v : Parts) {whole before : List Placed} {bundles : List Bundle}
    (on : IsOn whole before bundles line (Some v) lines) (had : ParsedFileSeen) where
  abbrev l : Placed
  l = with line (opens bundles) (Some v)

  abbrev rest : List Placed
  rest = placed_from (path_behind l) lines

  abbrev now : ParsedFileSeen
  now = and_line line.number (passing (named v) v (frame_of whole (opens bundles) (beside before l) ∷ [])) had

  -- a line adds what ends there as its component says, and what is checked there in the second round
  parsed-step : IsMatched l → parsed_from whole now (before ++ l ∷ []) rest ≡ parsed_from whole had before (l ∷ rest)
  parsed-step m = let same = picked-same whole line v (beside before l) (opens bundles) m in simp (append_assoc, same.0, same.1)

  asked : IsAsked whole (opens bundles) (beside before l)
  asked z = zone-beside before bundles on.kept z ∙ any-part whole (beside before l)

  -- with its least fault, and where it has none
  by_first : (o : Option FaultKind) → find (λ kind. stands kind (beside before l) l) kinds ≡ o →
      on_line line.number o (pass (behind line.number (named v) v (frames_of whole bundles)) (Some line.number) now lines)
      ≡ unless (found line.number o (first_from stands fault_at_end (before ++ l ∷ []) rest)) (parsed_from whole had before (l ∷ rest))
  by_first (Some k) e = refl
  by_first None e =
      let moved = opens-behind l bundles refl in
      ap (λ fs. pass fs (Some line.number) now lines)
      (sym (frames-behind whole before line v bundles on.kept (closes-here whole before line (Some v) bundles on)))
      ∙ (rw moved at (again whole (before ++ l ∷ []) (bundles_behind l bundles) (Some line.number) now (at-next line (Some v) lines on)
      (end-is-known whole before l (bundles_behind l bundles) moved)))
      ∙ ap (unless (first_from stands fault_at_end (before ++ l ∷ []) rest)) (parsed-step (nested (λ kind. stands kind (beside before l) l) e))

step : (line : Line) {lines : List Line} → Known lines → (o : Option Parts) {whole before : List Placed} {bundles : List Bundle} →
    IsOn whole before bundles line o lines → (had : ParsedFileSeen) →
    on_content line.number o (frames_of whole bundles) had (λ frames had. pass frames (Some line.number) had lines)
    ≡ unless (first_from stands fault_at_end before (with line (opens bundles) o
    ∷ placed_from (path_behind (with line (opens bundles) o)) lines))
    (parsed_from whole had before (with line (opens bundles) o ∷ placed_from (path_behind (with line (opens bundles) o)) lines))
step line again None on had = refl
step line again (Some v) {whole} {before} {bundles} on had =
    let l : Placed = with line (opens bundles) (Some v) in
    rw (
      passing-top whole before (named v) v bundles,
      fault-top whole before (named v) v bundles,
      top_beside before bundles on.kept,
      ← least-same whole (opens bundles) line.number v (beside before l) (asked line again v on had),
    ) (by_first line again v on had (find (λ kind. stands kind (beside before l) l) kinds) refl)

-- THE PASS SAYS WHAT THE LINES ARE.
pass-lines : (lines : List Line) → Known lines
pass-lines [] whole before bundles last had on e =
    simp (e, append-nil)
pass-lines (line ∷ lines) whole before bundles last had on e = step line (pass-lines lines) (content_of line.bytes) on had

pub first-at : (lines : List Line) → Rises 0 lines → IsAt (placed_from [] lines) [] [] lines
first-at [] r = tt
first-at (line ∷ lines) r =
    record { parts = refl; kept = tt; earlier = All-nil (λ l. innermost l.path < line.number); inner = r.0; rises = r.1 }

pub pass-whole : (lines : List Line) → Rises 0 lines →
    pass (bottom ∷ []) None nothing_parsed lines
    ≡ unless (first_fault (placed_from [] lines)) (parsed_from (placed_from [] lines) nothing_parsed [] (placed_from [] lines))
pass-whole lines r = pass-lines lines (placed_from [] lines) [] [] None nothing_parsed (first-at lines r) refl
