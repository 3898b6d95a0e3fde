-- What is kept of the parts of a file wants and gives what its parts do.
use Rattle.std.proofs.Common.{◌≡◌, ℕ, Bool, true, false, ◌&&◌, List, [], ◌∷◌, map, refl, sym, ap, ◌∙◌, cond, subst, Option, Some, None}
use Rattle.std.specs.Prelude.{not}
use Rattle.std.proofs.lemmas.Bool.{and_parts, not-true}
use Rattle.ics_components.proofs.MadeUids.{made_parts}
use Rattle.std.specs.List.{Contains, flat_map, list_all}
use Rattle.ics_text.specs.Unfolded.{begins_with_fold}
use Rattle.ics_components.specs.declared.fault.Fault.{Fault}
use Rattle.ics_components.specs.declared.parsed_file.CalendarZone.{CalendarZone}
use Rattle.ics_components.specs.FirstFault.{first_fault}
use Rattle.ics_components.specs.EventLines.{all_events, has_no_uid, has_parts, is_none_of, with_uid, with_uids}
use Rattle.ics_components.specs.Parted.{LacksUids, PartedComponentSeen, PartedFileSeen, component_seen, parted_lines, parted_of}
use Rattle.ics_components.specs.PlacedLines.{Placed, placed}
use Rattle.ics_components.proofs.PlacedApart.{AreParted, are_parted}
use Rattle.ics_calendar.specs.DeferredChecks.{KnownZones, with_files}
use Rattle.ics_calendar.specs.GivenFiles.{GivenFiles, no_files}
use Rattle.ics_calendar.specs.Parts.{Part, is_parted, lines_of, parts_give, parts_of, parts_want}
use Rattle.ics_calendar.specs.Inner.PartialFiles.{parts_in}
use Rattle.ics_calendar.specs.Inner.PartsRead.{AreRead, fault_needed, sound_zones}
use Rattle.ics_calendar.specs.Settled.{known_in}
use Rattle.ics_calendar.specs.Inner.SoundParts.{PartsSeen, given_by_parts, parts_said, wanted_by}
use Rattle.ics_calendar.proofs.FaultsNamed.{same-named}
use Rattle.ics_calendar.proofs.OneEach.{one-each}
use Rattle.ics_calendar.proofs.PartKept.{OneEach}
use Rattle.ics_calendar.proofs.PartsFirst.{are-first, wants}
use Rattle.ics_calendar.proofs.PartsJudged.{AreFirst, are-judged}
use Rattle.ics_calendar.proofs.PartsSaid.{parts-said}

-- WHAT IS KEPT, by the definition of the parts.
module _ (name bytes : List ℕ) (parts : PartsSeen) (has : is_parted bytes ≡ true) (are : AreRead (parted_lines (with_uids name (placed bytes))) parts) where
  abbrev whole : List Placed
  whole = with_uids name (placed bytes)

  abbrev needed : PartedComponentSeen → Option Fault
  needed = fault_needed (parted_lines whole)

  abbrev zones : List CalendarZone
  zones = sound_zones (parted_lines whole).zones

  parted : AreParted whole
  parted = are_parted name bytes (and_parts (not (begins_with_fold bytes)) (has_parts (placed bytes)) has).1

  one : (part : Part) → Contains (parts_of whole) part → first_fault (lines_of whole part) ≡ None → OneEach needed whole part
  one part k free event h = one-each no_files name bytes part k free event h

  gives : (files : GivenFiles) (fault : Fault) → (parts_said parts).gives files fault ≡ parts_give files whole fault
  gives files fault =
      ap (λ (known : KnownZones). given_by_parts (with_files known files (wanted_by known.index parts.faults parts.events)) parts files fault) are.known
      ∙ (λ i. record { said = said i; faults = faults i })
    where
      known : KnownZones
      known = with_files (known_in zones) files (wanted_by (known_in zones).index parts.faults parts.events)

      first : AreFirst needed known files whole parts
      first = are-first whole parted parts are one files

      said : (given_by_parts known parts files fault).said ≡ (parts_give files whole fault).said
      said = parts-said known files name bytes parts has are first fault

      faults : (given_by_parts known parts files fault).faults ≡ (parts_give files whole fault).faults
      faults = same-named known files whole parts (are-judged needed known files whole parts first) fault

  wants-same : (parts_said parts).wants ≡ parts_want whole
  wants-same = ap (λ (known : KnownZones). wanted_by known.index parts.faults parts.events) are.known ∙ wants whole parted parts are one

  pub parts-are : parts_said parts ≡ parts_in name bytes
  parts-are = λ i. record { wants = wants-same i; gives = λ files fault. gives files fault i }

-- WHICH FILES HAVE PARTS, as the pass says.
pub parted-is : (bytes : List ℕ) → parted_of None bytes ≡ cond (is_parted bytes) (Some (parted_lines (placed bytes))) None
parted-is bytes = by_fold (begins_with_fold bytes)
  where
    by_fold : (t : Bool) →
        cond t None (cond (has_parts (placed bytes)) (Some (parted_lines (placed bytes))) None)
        ≡ cond (not t && has_parts (placed bytes)) (Some (parted_lines (placed bytes))) None
    by_fold true = refl
    by_fold false = refl

pub is-parted : (bytes : List ℕ) (parted : PartedFileSeen) → parted_of None bytes ≡ Some parted →
    (is_parted bytes ≡ true) × (parted ≡ parted_lines (placed bytes))
is-parted bytes parted e = by_test (is_parted bytes) refl (sym (parted-is bytes) ∙ e)
  where
    by_test : (t : Bool) → is_parted bytes ≡ t → cond t (Some (parted_lines (placed bytes))) None ≡ Some parted →
        (is_parted bytes ≡ true) × (parted ≡ parted_lines (placed bytes))
    by_test true p e = (p, cc)
    by_test false p e = cc

pub not-parted : (bytes : List ℕ) → parted_of None bytes ≡ None → is_parted bytes ≡ false
not-parted bytes e = by_test (is_parted bytes) refl (sym (parted-is bytes) ∙ e)
  where
    by_test : (t : Bool) → is_parted bytes ≡ t → cond t (Some (parted_lines (placed bytes))) None ≡ None → is_parted bytes ≡ false
    by_test true p e = cc
    by_test false p e = p

-- whether an event has a UID, as it is gathered
pub no-uids : (lines : List Placed) (events : List Placed) →
    list_all (λ event. is_none_of event.uids) (map (component_seen lines) events) ≡ list_all (has_no_uid lines) events
no-uids lines [] = refl
no-uids lines (event ∷ events) = ap (λ t. has_no_uid lines event && t) (no-uids lines events)

-- WHERE NO EVENT HAS A UID, as it is gathered and as it is said.
pub lacks-by : (bytes : List ℕ) (parted : PartedFileSeen) → parted_of None bytes ≡ Some parted →
    list_all (λ event. is_none_of event.uids) parted.events ≡ true → LacksUids bytes
lacks-by bytes parted from e =
    let is = is-parted bytes parted from in
    let parts = and_parts (not (begins_with_fold bytes)) (has_parts (placed bytes)) is.0 in (
      not-true (begins_with_fold bytes) parts.0,
      parts.1,
      sym (no-uids (placed bytes) (all_events (placed bytes))) ∙ ap (λ (p : PartedFileSeen). list_all (λ event. is_none_of event.uids) p.events) (sym is.1) ∙ e,
    )

module _ (bytes : List ℕ) (lacks : LacksUids bytes) where
  pub lacks-gathered : parted_of None bytes ≡ Some (parted_lines (placed bytes))
  lacks-gathered = rw (lacks.0, lacks.1) refl

  pub lacks-all : list_all (λ event. is_none_of event.uids) (parted_lines (placed bytes)).events ≡ true
  lacks-all = no-uids (placed bytes) (all_events (placed bytes)) ∙ lacks.2

-- WHAT IS READ, without made UIDs and with them.
abbrev all_without : PartedFileSeen → Bool
all_without parted = list_all (λ event. is_none_of event.uids) parted.events

module _ (name bytes : List ℕ) (parted : PartedFileSeen) (from : parted_of None bytes ≡ Some parted) where
  abbrev lines : List Placed
  lines = placed bytes

  uids-are : (t : Bool) → all_without parted ≡ t → with_uids name lines ≡ cond t (flat_map (with_uid name) lines) lines
  uids-are t e =
      ap (λ t. cond t (flat_map (with_uid name) lines) lines)
      (sym (no-uids lines (all_events lines)) ∙ ap all_without (sym (is-parted bytes parted from).1) ∙ e)

  pub read-plain : (parts : PartsSeen) → all_without parted ≡ false → AreRead parted parts → (is_parted bytes ≡ true) × (parts_said parts ≡ parts_in name bytes)
  read-plain parts e are =
      let is = is-parted bytes parted from in (
        is.0,
        parts-are name bytes parts is.0 (subst (λ p. AreRead p parts) (is.1 ∙ ap parted_lines (sym (uids-are false e))) are),
      )

  made : parted_of (Some name) bytes ≡ Some (parted_lines (flat_map (with_uid name) lines))
  made =
      let parts = and_parts (not (begins_with_fold bytes)) (has_parts lines) (is-parted bytes parted from).0 in
      made_parts name bytes (not-true (begins_with_fold bytes) parts.0) parts.1

  pub read-made : (again : PartedFileSeen) (parts : PartsSeen) → all_without parted ≡ true → parted_of (Some name) bytes ≡ Some again → AreRead again parts →
      (is_parted bytes ≡ true) × (parts_said parts ≡ parts_in name bytes)
  read-made again parts e f are =
      let is = is-parted bytes parted from in
      let both : Some (parted_lines (flat_map (with_uid name) lines)) ≡ Some again = sym made ∙ f in
      let same : parted_lines (flat_map (with_uid name) lines) ≡ again = cc in
      (is.0, parts-are name bytes parts is.0 (subst (λ p. AreRead p parts) (sym same ∙ ap parted_lines (sym (uids-are true e))) are))

  pub never-none : parted_of (Some name) bytes ≡ None → ⊥
  never-none e = let both : Some (parted_lines (flat_map (with_uid name) lines)) ≡ None = sym made ∙ e in cc
