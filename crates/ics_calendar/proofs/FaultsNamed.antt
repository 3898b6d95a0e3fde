-- What is kept of the parts names the faults that the parts do, if each part has a number at which its first faults stand.
use Rattle.std.proofs.Common.{◌≡◌, ◌⊎◌, inl, inr, ℕ, Bool, true, false, ◌==◌, List, [], ◌∷◌, ◌++◌, get_or, refl, sym, ap, ◌∙◌, arith, cond, subst, ⊎_elim}
use Rattle.std.proofs.Common.{Option, Some, None}
use Rattle.std.specs.Prelude.{slice_get}
use Rattle.std.specs.List.{Contains, flat_map}
use Rattle.std.proofs.lemmas.Bool.Decides.{nat_tests}
use Rattle.std.proofs.lemmas.List.{get_or_default}
use Rattle.std.proofs.lemmas.List.Elements.{Contains-append_cases, Contains-append_left, Contains-append_right}
use Rattle.std.proofs.lemmas.Option.{get_or_from_slice_get, slice_get_within}
use Rattle.ics_components.specs.declared.fault.Fault.{Fault}
use Rattle.ics_components.specs.FirstFault.{first_fault}
use Rattle.ics_components.specs.PlacedLines.{Placed}
use Rattle.ics_file.specs.File.{FileSaid}
use Rattle.ics_calendar.specs.DeferredChecks.{KnownZones}
use Rattle.ics_calendar.specs.Files.{decide, later_fault, lines_say, said_of}
use Rattle.ics_calendar.specs.GivenFiles.{GivenFiles}
use Rattle.ics_calendar.specs.Parts.{Part, fault_in, lines_of, parts_give, parts_of, rest_of}
use Rattle.ics_calendar.specs.Settled.{first_judged}
use Rattle.ics_calendar.specs.Inner.SoundParts.{PartsSeen, SoundEventSeen, checks_of, given_by_parts, is_no_fault, is_sound, later_faults, later_named}
use Rattle.ics_calendar.specs.Inner.SoundParts.{later_of}
use Rattle.ics_calendar.specs.Inner.SoundParts.{listed, of_parts}
use Rattle.ics_calendar.proofs.InOrder.{IsWithin, same-order}
use Rattle.ics_calendar.proofs.OneUid.{was-flattened}
use Rattle.ics_calendar.proofs.PartLaws.{at-cons, flattened, here, is-here, no-element, there}

-- A part has a number at which its first faults stand.
pub record IsPartAt (known : KnownZones) (files : GivenFiles) (own : List Placed) (parts : PartsSeen) (n : ℕ) : Type 0 where
  pub first : slice_get parts.faults n ≡ Some (first_fault own)
  pub later : first_fault own ≡ None → later_of known parts.events n ≡ later_fault files own

pub record AreJudged (known : KnownZones) (files : GivenFiles) (lines : List Placed) (parts : PartsSeen) : Type 0 where
  pub into : (part : Part) → Contains (parts_of lines) part → (n : ℕ) × IsPartAt known files (lines_of lines part) parts n
  pub back : (n : ℕ) (fault : Fault) → get_or parts.faults n None ≡ Some fault →
      (part : Part) × Contains (parts_of lines) part × (first_fault (lines_of lines part) ≡ Some fault)
  pub of_event : (sound : SoundEventSeen) → Contains parts.events sound →
      (part : Part) × Contains (parts_of lines) part × IsPartAt known files (lines_of lines part) parts sound.part
  pub rest : fault_in (lines_say files (rest_of lines)) ≡ listed parts.rest

in-decide : (first later : Option Fault) (said : FileSaid) (fault : Fault) → Contains (fault_in (decide first later said)) fault →
    (first ≡ Some fault) ⊎ ((first ≡ None) × (later ≡ Some fault))
in-decide (Some other) later said fault h = inl (ap (λ (f : Fault). Some f) (is-here other fault h))
in-decide None (Some other) said fault h = inr (refl, ap (λ (f : Fault). Some f) (is-here other fault h))
in-decide None None said fault h = absurd (no-element fault h)

decided-first : (first later : Option Fault) (said : FileSaid) (fault : Fault) → first ≡ Some fault → Contains (fault_in (decide first later said)) fault
decided-first first later said fault e = subst (λ o. Contains (fault_in (decide o later said)) fault) (sym e) (here fault [])

decided-later : (first later : Option Fault) (said : FileSaid) (fault : Fault) → first ≡ None → later ≡ Some fault →
    Contains (fault_in (decide first later said)) fault
decided-later first later said fault e f =
    subst (λ o. Contains (fault_in (decide o later said)) fault) (sym e)
    (subst (λ o. Contains (fault_in (decide None o said)) fault) (sym f) (here fault []))

in-listed : (o : Option Fault) (fault : Fault) → Contains (listed o) fault → o ≡ Some fault
in-listed None fault h = absurd (no-element fault h)
in-listed (Some other) fault h = ap (λ (f : Fault). Some f) (is-here other fault h)

now-listed : (o : Option Fault) (fault : Fault) → o ≡ Some fault → Contains (listed o) fault
now-listed o fault e = subst (λ o. Contains (listed o) fault) (sym e) (here fault [])

none-there : (o : Option Fault) → is_no_fault (Some o) ≡ true → o ≡ None
none-there None e = refl
none-there (Some fault) e = cc

-- an event of that number
abbrev Found : ℕ → List SoundEventSeen → Type 0
Found n events = (sound : SoundEventSeen) × Contains events sound × (sound.part ≡ n)

module _ (known : KnownZones) where
  later-event : (events : List SoundEventSeen) (n : ℕ) (fault : Fault) → later_of known events n ≡ Some fault → Found n events
  later-event [] n fault e = cc
  later-event (sound ∷ events) n fault e = by_test (later-event events n fault) (sound.part == n) refl e
    where
      by_test : (later_of known events n ≡ Some fault → Found n events) → (t : Bool) → (sound.part == n) ≡ t →
          first_judged known (checks_of (cond t (sound ∷ of_parts (λ other. other == n) events) (of_parts (λ other. other == n) events))) ≡ Some fault →
          Found n (sound ∷ events)
      by_test again true is e = (sound, here sound events, grind (arith, nat_tests, is))
      by_test again false is e = let other = again e in (other.0, there sound events other.0 other.1, other.2)

  later-named : (faults : List (Option Fault)) (events : List SoundEventSeen) (part : ℕ) (fault : Fault) →
      later_named known faults events part ≡ Some fault → (is_sound faults part ≡ true) × (later_of known events part ≡ Some fault)
  later-named faults events part fault e = by_test (is_sound faults part) e
    where
      by_test : (t : Bool) → cond t (later_of known events part) None ≡ Some fault → (t ≡ true) × (later_of known events part ≡ Some fault)
      by_test true e = (refl, e)
      by_test false e = cc

  module _ (files : GivenFiles) (lines : List Placed) (parts : PartsSeen) (are : AreJudged known files lines parts) (fault : Fault) where
    abbrev answer : Part → List Fault
    answer part = fault_in (lines_say files (lines_of lines part))

    abbrev kept : List Fault
    kept = flat_map listed parts.faults ++ later_faults known parts.faults parts.events

    abbrev named : List Fault
    named = flat_map answer (parts_of lines)

    abbrev rest : List Fault
    rest = fault_in (lines_say files (rest_of lines))

    part-named : (part : Part) (f : Fault) → Contains (parts_of lines) part → Contains (answer part) f → Contains (fault ∷ (named ++ rest)) f
    part-named part f k h = there fault (named ++ rest) f (Contains-append_left named rest f (flattened answer (parts_of lines) part f k h))

    kept-named : (f : Fault) → Contains kept f → Contains (fault ∷ (named ++ rest)) f
    kept-named f h = ⊎_elim by-first by-later (Contains-append_cases (flat_map listed parts.faults) (later_faults known parts.faults parts.events) f h)
      where
        by-first : Contains (flat_map listed parts.faults) f → Contains (fault ∷ (named ++ rest)) f
        by-first h =
            let was = was-flattened listed parts.faults f h in
            let is = in-listed was.0 f was.2 in
            let place = was.1 in
            let part = are.back place.0 f (get_or_default parts.faults place.0 None was.0 place.1 ∙ place.2 ∙ is) in
            part-named part.0 f part.1
            (decided-first (first_fault (lines_of lines part.0)) (later_fault files (lines_of lines part.0)) (said_of files (lines_of lines part.0)) f part.2)

        by-later : Contains (later_faults known parts.faults parts.events) f → Contains (fault ∷ (named ++ rest)) f
        by-later h =
            let was = was-flattened (λ sound. listed (later_named known parts.faults parts.events sound.part)) parts.events f h in
            let is = later-named parts.faults parts.events was.0.part f (in-listed (later_named known parts.faults parts.events was.0.part) f was.2) in
            let part = are.of_event was.0 was.1 in
            let own : List Placed = lines_of lines part.0 in
            let none : first_fault own ≡ None = none-there (first_fault own) (ap is_no_fault (sym part.2.first) ∙ is.0) in
            part-named part.0 f part.1
            (decided-later (first_fault own) (later_fault files own) (said_of files own) f none (sym (part.2.later none) ∙ is.1))

    named-kept : (part : Part) (f : Fault) → Contains (parts_of lines) part → Contains (answer part) f → Contains kept f
    named-kept part f k h =
        ⊎_elim by-first by-later (in-decide (first_fault own) (later_fault files own) (said_of files own) f h)
      where
        own : List Placed
        own = lines_of lines part

        n : ℕ
        n = (are.into part k).0

        is : IsPartAt known files own parts n
        is = (are.into part k).1

        by-first : first_fault own ≡ Some f → Contains kept f
        by-first e =
            let at : slice_get parts.faults n ≡ Some (Some f) = is.first ∙ ap (λ (o : Option Fault). Some o) e in
            Contains-append_left (flat_map listed parts.faults) (later_faults known parts.faults parts.events) f
            (flattened listed parts.faults (Some f) f
            (n, slice_get_within parts.faults n (Some f) at, get_or_from_slice_get parts.faults n (Some f) (Some f) at) (here f []))

        by-later : (first_fault own ≡ None) × (later_fault files own ≡ Some f) → Contains kept f
        by-later e =
            let later : later_of known parts.events n ≡ Some f = is.later e.0 ∙ e.1 in
            let sound = later-event parts.events n f later in
            let free : is_sound parts.faults n ≡ true = ap is_no_fault is.first ∙ ap (λ o. is_no_fault (Some o)) e.0 in
            let at : later_named known parts.faults parts.events n ≡ Some f = ap (λ t. cond t (later_of known parts.events n) None) free ∙ later in
            Contains-append_right (flat_map listed parts.faults) (later_faults known parts.faults parts.events) f
            (flattened (λ sound. listed (later_named known parts.faults parts.events sound.part)) parts.events sound.0 f sound.1
            (now-listed (later_named known parts.faults parts.events sound.0.part) f
            (ap (later_named known parts.faults parts.events) sound.2 ∙ at)))

    into : IsWithin (fault ∷ (listed parts.rest ++ kept)) (fault ∷ (named ++ rest))
    into f h =
        ⊎_elim (λ (e : fault ≡ f). subst (λ z. Contains (z ∷ (named ++ rest)) f) (sym e) (here f (named ++ rest)))
        (λ l. ⊎_elim
        (λ r. there fault (named ++ rest) f (Contains-append_right named rest f (subst (λ fs. Contains fs f) (sym are.rest) r))) (kept-named f)
        (Contains-append_cases (listed parts.rest) kept f l)) (at-cons fault (listed parts.rest ++ kept) f h)

    back : IsWithin (fault ∷ (named ++ rest)) (fault ∷ (listed parts.rest ++ kept))
    back f h =
        ⊎_elim (λ (e : fault ≡ f). subst (λ z. Contains (z ∷ (listed parts.rest ++ kept)) f) (sym e) (here f (listed parts.rest ++ kept)))
        (λ l. there fault (listed parts.rest ++ kept) f (⊎_elim
        (λ p. let was = was-flattened answer (parts_of lines) f p in
        Contains-append_right (listed parts.rest) kept f (named-kept was.0 f was.1 was.2))
        (λ r. Contains-append_left (listed parts.rest) kept f (subst (λ fs. Contains fs f) are.rest r))
        (Contains-append_cases named rest f l))) (at-cons fault (named ++ rest) f h)

    -- THE FAULTS that are named are the same.
    pub same-named : (given_by_parts known parts files fault).faults ≡ (parts_give files lines fault).faults
    same-named = same-order (fault ∷ (listed parts.rest ++ kept)) (fault ∷ (named ++ rest)) into back
