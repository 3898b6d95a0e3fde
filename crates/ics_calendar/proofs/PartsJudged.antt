-- What is kept of a file judges its parts as the definition does, given the first fault of each part, and that of its checks.
use Rattle.std.proofs.Common.{◌≡◌, ℕ, List, sym, ap, ◌∙◌, Option, Some, None, get_or, subst}
use Rattle.std.specs.Prelude.{slice_get}
use Rattle.std.specs.List.{Contains}
use Rattle.ics_components.specs.declared.fault.Fault.{Fault}
use Rattle.ics_components.specs.FirstFault.{first_fault}
use Rattle.ics_components.specs.Parted.{PartedComponentSeen}
use Rattle.ics_components.specs.PlacedLines.{Placed}
use Rattle.ics_calendar.specs.DeferredChecks.{KnownZones}
use Rattle.ics_calendar.specs.Files.{later_fault, lines_say}
use Rattle.ics_calendar.specs.GivenFiles.{GivenFiles}
use Rattle.ics_calendar.specs.Parts.{Part, fault_in, lines_of, parts_of, rest_of}
use Rattle.ics_calendar.specs.Inner.PartsRead.{Labelled, labelled}
use Rattle.ics_calendar.specs.Inner.SoundParts.{PartsSeen, SoundEventSeen, later_of, listed}
use Rattle.ics_calendar.proofs.FaultsNamed.{AreJudged, IsPartAt}
use Rattle.ics_calendar.proofs.PartKept.{IsKept, into-kept, of-kept}
use Rattle.ics_calendar.proofs.PartNumbers.{back-number, events, first_of_part}

module _ (needed : PartedComponentSeen → Option Fault) (known : KnownZones) (files : GivenFiles) (lines : List Placed) (parts : PartsSeen) where
  abbrev all : Labelled
  all = labelled needed (events needed lines)

  -- the first fault of a part is that of what its events need, and the checks of its events find what the second round finds
  pub record AreFirst : Type 0 where
    pub faults : parts.faults ≡ all.numbered.faults
    pub events : parts.events ≡ all.events
    pub first : (part : Part) → Contains (parts_of lines) part → first_fault (lines_of lines part) ≡ first_of_part needed lines part
    pub later : (part : Part) (n : ℕ) → Contains (parts_of lines) part → IsKept needed lines part n → first_fault (lines_of lines part) ≡ None →
        later_of known all.events n ≡ later_fault files (lines_of lines part)
    pub rest : fault_in (lines_say files (rest_of lines)) ≡ listed parts.rest

  pub part-at : AreFirst → (part : Part) (n : ℕ) → Contains (parts_of lines) part → IsKept needed lines part n →
      IsPartAt known files (lines_of lines part) parts n
  part-at are part n k is = record {
    first = ap (λ (faults : List (Option Fault)). slice_get faults n) are.faults ∙ is.first ∙ ap (λ (o : Option Fault). Some o) (sym (are.first part k));
    later = λ none. ap (λ (events : List SoundEventSeen). later_of known events n) are.events ∙ are.later part n k is none;
  }

  pub are-judged : AreFirst → AreJudged known files lines parts
  are-judged are = record {
    into = λ part k. let is = into-kept needed lines part k in (is.0, part-at are part is.0 k is.1);
    back = λ n fault e.
        let part = back-number needed lines n fault (ap (λ (faults : List (Option Fault)). get_or faults n None) (sym are.faults) ∙ e) in
        (part.0, part.1, are.first part.0 part.1 ∙ part.2);
    of_event = λ sound k.
        let is = of-kept needed lines sound (subst (λ (es : List SoundEventSeen). Contains es sound) are.events k) in
        (is.0, is.1, part-at are is.0 sound.part is.1 is.2);
    rest = are.rest;
  }
