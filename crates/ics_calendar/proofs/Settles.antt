-- What is settled of what the pass gathers is what the file is, and what it asks for is what the file wants.
use Rattle.std.proofs.Common.{◌≡◌, ℕ, Bool, List, [], ◌∷◌, ◌++◌, map, filter, refl, sym, ap, ◌∙◌, arith, cond, Option, Some, None}
use Rattle.std.specs.List.{cons_option}
use Rattle.std.specs.Option.{option_and_then}
use Rattle.std.proofs.lemmas.Bool.{and_parts}
use Rattle.std.proofs.lemmas.Simd.{map-map}
use Rattle.ics_text.specs.Unfolded.{Line, Rises}
use Rattle.ics_text.specs.ContentLines.{Parts, content_of}
use Rattle.ics_components.specs.declared.parsed_file.LineCheck.{LineCheck}
use Rattle.ics_components.specs.declared.deferred_check.DeferredCheck.{DeferredCheck}
use Rattle.ics_components.specs.declared.deferred_check.ZoneName.{ZoneName}
use Rattle.ics_calendar.specs.Settled.{event_in, first_judged, known_in, unresolved_by, all_unknown, settled_by}
use Rattle.ics_components.specs.Faults.{stands}
use Rattle.ics_calendar.specs.LaterFaults.{stands_later, is_in_unknown_zone, tzid_on}
use Rattle.ics_calendar.specs.Files.{event_by, said_of, decide, later_fault}
use Rattle.ics_components.specs.PlacedLines.{begins_event, Placed, Open, path_behind, placed_from, beside, calendar_of, lines_in}
use Rattle.ics_components.specs.FirstFault.{found, least_on, first_from, first_fault, fault_at_end}
use Rattle.ics_components.specs.ParsedFiles.{nothing_parsed, checks_of}
use Rattle.ics_components.specs.ParsedFileSeen.{ParsedFileSeen}
use Rattle.ics_calendar.specs.DeferredChecks.{KnownZones, judged, unknown_in}
use Rattle.ics_calendar.specs.GivenFiles.{GivenFiles}
use Rattle.ics_calendar.specs.Wanted.{each_once, unknown_names, zones_with}
use Rattle.ics_calendar.specs.Zones.{zones_on}
use Rattle.ics_components.proofs.EndOrder.{events, zones}
use Rattle.ics_components.proofs.EndOrder.{events-are, zones-are, names-begun, calendar-inside, begun-same}
use Rattle.ics_components.proofs.Frames.{with}
use Rattle.ics_calendar.proofs.DeferredTable.{same-on}
use Rattle.ics_components.proofs.Order.{found-none, begun, IsPlaced, ordered, nested}
use Rattle.ics_components.proofs.PassLemmas.{checks_from, parsed_from}

-- THE DEFERRED CHECKS of lines without a fault of the first round, judged in order, give the first fault of the second round, and they ask for the time
-- zones that the lines want.
module _ (known : KnownZones) where
  pub one-check : (number : ℕ) (o : Option DeferredCheck) (ws : List LineCheck) →
      (first_judged known (checks_of number o ++ ws) ≡ found number (option_and_then (judged known) o) (first_judged known ws))
      × (all_unknown known.index (checks_of number o ++ ws) ≡ cons_option (option_and_then (unknown_in known.index) o) (all_unknown known.index ws))
  one-check number o ws = (grind arith, grind arith)

  pub one-name : (l : Placed) (ls : List Placed) (t : Bool) → cons_option (cond t (Some (tzid_on l)) None) (map tzid_on ls) ≡ map tzid_on (cond t (l ∷ ls) ls)
  one-name l ls t = grind arith

  abbrev pub Same : List Placed → List Placed → List Placed → Type 0
  Same whole before ls =
      (first_judged known (checks_from whole before ls) ≡ first_from (stands_later known) (λ b. None) before ls)
      × (all_unknown known.index (checks_from whole before ls) ≡ map tzid_on (filter (is_in_unknown_zone known) ls))

  pub same-checks : (whole : List Placed) (lines : List Line) (before : List Placed) (path : List Open) →
      first_from stands fault_at_end before (placed_from path lines) ≡ None → Same whole before (placed_from path lines)
  same-checks whole [] before path e = (refl, refl)
  same-checks whole (line ∷ lines) before path e = by_content (same-checks whole lines) (content_of line.bytes) e
    where
      at : Option Parts → List Placed
      at o = with line path o ∷ placed_from (path_behind (with line path o)) lines

      by_content : ((before : List Placed) (path : List Open) → first_from stands fault_at_end before (placed_from path lines) ≡ None →
          Same whole before (placed_from path lines)) → (o : Option Parts) → first_from stands fault_at_end before (at o) ≡ None → Same whole before (at o)
      by_content again None e = cc
      by_content again (Some v) e =
          let l : Placed = with line path (Some v) in
          let rest : List Placed = placed_from (path_behind l) lines in
          let none = found-none line.number (least_on stands before l) (first_from stands fault_at_end (before ++ l ∷ []) rest) e in
          let step = same-on whole line v (beside before l) path known (nested (λ kind. stands kind (beside before l) l) none.0) in
          let more = again (before ++ l ∷ []) (path_behind l) none.1 in
          let one = one-check line.number _ (checks_from whole (before ++ l ∷ []) rest) in (
            one.0 ∙ (λ i. found line.number (sym step.0 i) (more.0 i)),
            one.1 ∙ (λ i. cons_option (sym step.1 i) (more.1 i)) ∙ one-name l (filter (is_in_unknown_zone known) rest) (is_in_unknown_zone known l),
          )

-- THE EVENTS, by what is gathered.
pub events-begun : (index : ZoneName → Option ℕ) (whole ls : List Placed) →
    map (event_in index) (begun events whole ls) ≡ map (λ line. event_by index (calendar_of line.path) (lines_in line.number whole)) (filter begins_event ls)
events-begun index whole ls =
    begun-same events whole (event_in index) (λ line. event_by index (calendar_of line.path) (lines_in line.number whole))
    (λ l e. ap (λ k. event_by index k (lines_in l.number whole)) (calendar-inside l (and_parts _ _ e).0)) ls

-- LINES WITHOUT A FAULT of the first round.
module _ (lines : List Line) (r : Rises 0 lines) (first : first_fault (placed_from [] lines) ≡ None) where
  abbrev whole : List Placed
  whole = placed_from [] lines

  abbrev parsed : ParsedFileSeen
  parsed = parsed_from whole nothing_parsed [] whole

  -- WHAT THE UNRESOLVED FILE SAYS: what is wanted, and what is settled with zone files.
  pub unresolved-is : unresolved_by (known_in parsed.zones) parsed.events parsed.checks
      ≡ record { wants = each_once (unknown_names whole); says = λ files. decide None (later_fault files whole) (said_of files whole) }
  unresolved-is =
      let placed : IsPlaced whole [] [] 0 lines = record { parts = refl; falls = tt; inner = omega arith; rises = r } in
      rw (
        ordered (zones whole) (zones-are whole) lines whole [] [] 0 placed (λ e. refl) first,
        ordered events events-are lines whole [] [] 0 placed (λ e. refl) first,
        ← names-begun whole whole,
        map-map,
        (same-checks (zones_on whole) whole lines [] [] first).1,
      ) (λ i. record { wants = each_once (unknown_names whole); says = λ files. settled files i })
    where
      settled : (files : GivenFiles) →
          settled_by (zones_with files whole) (begun events whole whole) (checks_from whole [] whole)
          ≡ decide None (later_fault files whole) (said_of files whole)
      settled files =
          let known : KnownZones = zones_with files whole in
          rw ((same-checks known whole lines [] [] first).0, events-begun known.index whole whole)
