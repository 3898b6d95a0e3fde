-- What is kept of a file judges each of its parts as the definition does.
use Rattle.std.proofs.Common.{◌≡◌, ℕ, true, false, ◌==◌, List, [], ◌∷◌, map, refl, sym, ap, ◌∙◌, cond, subst, ⊎_elim, Bool, filter}
use Rattle.std.proofs.Common.{Option, Some, None}
use Rattle.std.specs.Prelude.{is_none, is_some}
use Rattle.std.specs.List.{Contains, cons_option, filter_map, flat_map, list_any}
use Rattle.std.specs.Str.{bytes_eq}
use Rattle.std.proofs.lemmas.Bool.{eqb-true}
use Rattle.std.proofs.lemmas.List.Folds.{fold-map}
use Rattle.ics_components.specs.declared.deferred_check.DeferredCheck.TheVariants as check
use Rattle.ics_components.specs.declared.deferred_check.ZoneName.{ZoneName}
use Rattle.ics_components.specs.declared.fault.Fault.{Fault}
use Rattle.ics_components.specs.declared.parsed_file.CalendarZone.{CalendarZone}
use Rattle.ics_components.specs.declared.parsed_file.LineCheck.{LineCheck}
use Rattle.ics_components.specs.FirstFault.{first_fault}
use Rattle.ics_components.specs.ParsedFileSeen.{ParsedFileSeen}
use Rattle.ics_components.specs.Parted.{PartedComponentSeen, component_seen, parted_lines}
use Rattle.ics_components.specs.PartFaults.{earlier}
use Rattle.ics_components.specs.PlacedLines.{Placed}
use Rattle.ics_components.proofs.PlacedApart.{AreParted}
use Rattle.ics_components.specs.EventLines.{all_events}
use Rattle.ics_calendar.specs.DeferredChecks.{unknown_in, with_files}
use Rattle.ics_calendar.specs.Files.{later_fault}
use Rattle.ics_calendar.specs.GivenFiles.{GivenFiles, no_files}
use Rattle.ics_calendar.specs.Parts.{Part, lines_of, parts_of, parts_want, sound_parts}
use Rattle.ics_calendar.specs.Inner.PartsRead.{AreRead, Labelled, fault_needed, labelled, sound_zones}
use Rattle.ics_calendar.specs.Settled.{all_unknown, first_judged, known_in}
use Rattle.ics_calendar.specs.Inner.SoundParts.{PartsSeen, SoundEventSeen, checks_of, is_no_fault, is_sound, later_of, listed, of_parts, wanted_by}
use Rattle.ics_calendar.specs.Wanted.{each_once, unknown_names}
use Rattle.ics_calendar.proofs.OneUid.{was-flattened, was-kept, was-mapped}
use Rattle.ics_calendar.proofs.PartChecks.{IsWanted, checks, checks-alike, checks_on, later-is, some_zones, wants-are}
use Rattle.ics_calendar.proofs.PartEach.{none-of, part-itself, some-event}
use Rattle.ics_calendar.proofs.PartEvents.{under}
use Rattle.ics_calendar.proofs.PartFirst.{IsPart, all_lines, is_event_of, part-member, part_first}
use Rattle.ics_calendar.proofs.PartKept.{IsKept, OneEach}
use Rattle.ics_calendar.proofs.PartLaws.{at-cons, flattened, here, kept, mapped, no-element, once, there}
use Rattle.ics_calendar.proofs.PartNumbers.{events, first_of_part, itself-in}
use Rattle.ics_calendar.proofs.PartsChosen.{all-gathers, chosen-events, chosen-gathers}
use Rattle.ics_calendar.proofs.PartsJoined.{AreAmong, AreFree, joined, joined-free, joined-is, none-is, part-is}
use Rattle.ics_calendar.proofs.PartsJudged.{AreFirst}
use Rattle.ics_calendar.proofs.RestSays.{rest-says}
use Rattle.ics_calendar.proofs.ZonesKept.{first-alike, known-alone, unknown-alike, zone_named}

module _ {X Y : Type 0} where
  kept-some : (f : X → Option Y) (xs : List X) (x : X) (y : Y) → Contains xs x → f x ≡ Some y → Contains (filter_map f xs) y
  kept-some f [] x y k e = absurd (no-element x k)
  kept-some f (z ∷ zs) x y k e = ⊎_elim now (λ l. later (f z) (kept-some f zs x y l e)) (at-cons z zs x k)
    where
      now : z ≡ x → Contains (cons_option (f z) (filter_map f zs)) y
      now same = subst (λ o. Contains (cons_option o (filter_map f zs)) y) (sym (ap f same ∙ e)) (here y (filter_map f zs))

      later : (o : Option Y) → Contains (filter_map f zs) y → Contains (cons_option o (filter_map f zs)) y
      later None h = h
      later (Some v) h = there v (filter_map f zs) y h

-- a name that a check uses, and that no time zone has, is wanted
pub wanted-in : (zones : List CalendarZone) (checks : List LineCheck) (used : ZoneName) → Contains (map (λ w. w.check) checks) (check.Zone used) →
    zone_named used zones ≡ None → list_any (bytes_eq used.name) (each_once (all_unknown (known_in zones).index checks)) ≡ true
wanted-in zones checks used k none =
    let was = was-mapped (λ (w : LineCheck). w.check) checks (check.Zone used) k in
    let unknown : is_some ((known_in zones).index used) ≡ false = known-alone zones used ∙ ap is_some none in
    let is : unknown_in (known_in zones).index was.0.check ≡ Some used.name =
    ap (unknown_in (known_in zones).index) was.2 ∙ ap (λ t. cond t None (Some used.name)) unknown in
    let names : List (List ℕ) = all_unknown (known_in zones).index checks in
    itself-in (each_once names) used.name
    (once names used.name (kept-some (λ (w : LineCheck). unknown_in (known_in zones).index w.check) checks was.0 used.name was.1 is))

module _ (ls : List Placed) (parted : AreParted ls) (parts : PartsSeen) (are : AreRead (parted_lines ls) parts)
    (one : (part : Part) → Contains (parts_of ls) part → first_fault (lines_of ls part) ≡ None → OneEach (fault_needed (parted_lines ls)) ls part) where
  abbrev needed : PartedComponentSeen → Option Fault
  needed = fault_needed (parted_lines ls)

  abbrev all : Labelled
  all = labelled needed (events needed ls)

  abbrev zones : List CalendarZone
  zones = sound_zones (parted_lines ls).zones

  -- the names that the parts want, as they are kept
  abbrev pub wanted : List (List ℕ)
  wanted = wanted_by (known_in zones).index parts.faults parts.events

  -- THE FIRST FAULT of each part is that of what its events need.
  pub first-is : (part : Part) → Contains (parts_of ls) part → first_fault (lines_of ls part) ≡ first_of_part needed ls part
  first-is part k =
      let some = some-event ls part k in
      part_first ls parted.in_place parted.apart part (part-is ls part k) parted.nested some.0 some.1
      ∙ sym (fold-map (λ first event. earlier first (needed event)) (component_seen ls) None part)

  -- a part is sound where its number is
  pub sound-is : (part : Part) (n : ℕ) → Contains (parts_of ls) part → IsKept needed ls part n →
      is_none (first_fault (lines_of ls part)) ≡ is_sound all.numbered.faults n
  sound-is part n k is = ap is_none (first-is part k) ∙ by_fault (first_of_part needed ls part) ∙ ap is_no_fault (sym is.first)
    where
      by_fault : (o : Option Fault) → is_none o ≡ is_no_fault (Some o)
      by_fault None = refl
      by_fault (Some fault) = refl

  -- THE FAULT OF THE SECOND ROUND of each part is that of the checks of its events.
  module _ (files : GivenFiles) (part : Part) (n : ℕ) (k : Contains (parts_of ls) part) (is : IsKept needed ls part n)
      (none : first_fault (lines_of ls part) ≡ None) where
    inside : IsPart ls part
    inside = part-is ls part k

    abbrev own : List LineCheck
    own = checks ls parted.in_place parted.nested part inside

    abbrev mine : List CalendarZone
    mine = some_zones ls parted.in_place parted.nested part inside

    kept-checks : checks_of (under n all.events) ≡ own
    kept-checks =
        ap checks_of (is.sound (one part k none))
        ∙ all-gathers (λ (read : ParsedFileSeen). read.checks) refl ls n part (λ e i. (part-member ls part inside e i).1)
        ∙ ap (flat_map (checks_on ls parted.in_place parted.nested part inside)) (sym (part-itself ls parted.in_place part k))

    sound : is_sound all.numbered.faults n ≡ true
    sound = sym (sound-is part n k is) ∙ ap is_none none

    among : (w : LineCheck) → Contains own w → Contains (checks_of (of_parts (is_sound parts.faults) parts.events)) w
    among w h =
        let was = was-flattened (λ (s : SoundEventSeen). s.read.checks) (under n all.events) w (subst (λ ws. Contains ws w) (sym kept-checks) h) in
        let there = was-kept (λ (s : SoundEventSeen). s.part == n) all.events was.0 was.1 in
        let right : is_sound parts.faults was.0.part ≡ true =
        ap (is_sound parts.faults) (eqb-true was.0.part n there.0) ∙ ap (λ faults. is_sound faults n) are.faults ∙ sound in
        flattened (λ (s : SoundEventSeen). s.read.checks) (of_parts (is_sound parts.faults) parts.events) was.0 w
        (kept (λ (s : SoundEventSeen). is_sound parts.faults s.part) parts.events was.0 right
        (subst (λ es. Contains es was.0) (sym are.events) there.1)) was.2

    same : (used : ZoneName) → IsWanted ls parted.in_place parted.nested part inside used → zone_named used mine ≡ None → zone_named used zones ≡ None →
        list_any (bytes_eq used.name) (each_once (all_unknown (known_in mine).index own)) ≡ list_any (bytes_eq used.name) wanted
    same used h missing gone =
        wanted-in mine own used h missing
        ∙ sym (wanted-in zones (checks_of (of_parts (is_sound parts.faults) parts.events)) used wide gone)
      where
        wide : Contains (map (λ w. w.check) (checks_of (of_parts (is_sound parts.faults) parts.events))) (check.Zone used)
        wide = let was = was-mapped (λ (w : LineCheck). w.check) own (check.Zone used) h in
            subst (Contains (map (λ w. w.check) (checks_of (of_parts (is_sound parts.faults) parts.events)))) was.2
            (mapped (λ (w : LineCheck). w.check) (checks_of (of_parts (is_sound parts.faults) parts.events)) was.0 (among was.0 was.1))

    pub later-first : later_of (with_files (known_in zones) files wanted) all.events n ≡ later_fault files (lines_of ls part)
    later-first =
        let names : List (List ℕ) = each_once (all_unknown (known_in mine).index own) in
        ap (first_judged (with_files (known_in zones) files wanted)) kept-checks
        ∙ sym (first-alike files mine zones names wanted own (checks-alike ls parted.in_place parted.nested part inside files names wanted same))
        ∙ later-is ls parted.in_place parted.nested part inside none files

  -- SO EACH PART is judged as the definition does.
  pub are-first : (files : GivenFiles) → AreFirst needed (with_files (known_in zones) files wanted) files ls parts
  are-first files = record {
    faults = are.faults;
    events = are.events;
    first = first-is;
    later = λ part n k is none. later-first files part n k is none;
    rest = rest-says files ls parted.in_place parted.apart parted.nested ∙ ap listed (sym are.rest);
  }

  -- WHAT THE PARTS WANT is what the sound ones do as one.
  abbrev is_free : Part → Bool
  is_free part = is_none (first_fault (lines_of ls part))

  all-among : AreAmong ls (sound_parts ls)
  all-among part k = (was-kept is_free (parts_of ls) part k).1

  all-free : AreFree ls (sound_parts ls)
  all-free part k = none-is (first_fault (lines_of ls part)) (was-kept is_free (parts_of ls) part k).0

  abbrev together : Part
  together = joined (sound_parts ls)

  together-is : IsPart ls together
  together-is = joined-is ls (sound_parts ls) all-among

  abbrev together_checks : List LineCheck
  together_checks = checks ls parted.in_place parted.nested together together-is

  -- their checks
  kept-together : checks_of (of_parts (is_sound parts.faults) parts.events) ≡ together_checks
  kept-together =
      (λ i. checks_of (of_parts (is_sound (are.faults i)) (are.events i)))
      ∙ chosen-gathers (λ (read : ParsedFileSeen). read.checks) refl ls together (of_parts (is_sound all.numbered.faults) all.events)
      (chosen-events needed ls parted.in_place (is_sound all.numbered.faults) is_free (λ part n k is. sound-is part n k is)
      (λ part k e. one part k (none-is (first_fault (lines_of ls part)) e)))

  pub wants : wanted_by (known_in zones).index parts.faults parts.events ≡ parts_want ls
  wants =
      ap (λ (ws : List LineCheck). each_once (all_unknown (known_in zones).index ws)) kept-together
      ∙ by_events together refl
      ∙ ap (λ (lines : List Placed). each_once (unknown_names lines)) (sym (all_lines ls (sound_parts ls)))
    where
      nothing : (lines : List Placed) → lines ≡ [] → each_once (unknown_names lines) ≡ []
      nothing lines e = ap (λ (lines : List Placed). each_once (unknown_names lines)) e

      by_events : (es : Part) → together ≡ es →
          each_once (all_unknown (known_in zones).index together_checks) ≡ each_once (unknown_names (lines_of ls together))
      by_events [] e =
          let none : filter (is_event_of together) (all_events ls) ≡ [] =
          ap (λ (es : Part). filter (is_event_of es) (all_events ls)) e ∙ none-of (is_event_of []) (all_events ls) (λ k i. refl) in
          ap
          (λ (items : List Placed).
          each_once (all_unknown (known_in zones).index (flat_map (checks_on ls parted.in_place parted.nested together together-is) items)))
          none
          ∙ sym (nothing (lines_of ls together) (ap (lines_of ls) e ∙ none-of (λ line. false) ls (λ k i. refl)))
      by_events (event ∷ es) e =
          let none = joined-free ls parted (sound_parts ls) all-among all-free event (subst (λ (es : Part). Contains es event) (sym e) (here event es)) in
          ap each_once
          (sym (unknown-alike no_files (some_zones ls parted.in_place parted.nested together together-is) zones [] [] together_checks
          (checks-alike ls parted.in_place parted.nested together together-is no_files [] [] (λ used k missing gone. refl))))
          ∙ wants-are ls parted.in_place parted.nested together together-is none
