-- What the rest of a file says is its first fault, as it is kept.
use Rattle.std.proofs.Common.{◌≡◌, inl, inr, Bool, true, false, List, [], ◌∷◌, ◌++◌, filter, flat_map, fold, refl, sym, ap, ◌∙◌, Option, Some, None}
use Rattle.std.proofs.Common.{Result, Ok, Err}
use Rattle.std.specs.List.{list_any}
use Rattle.ics_components.specs.declared.fault.Fault.{Fault}
use Rattle.ics_components.specs.EventLines.{all_events, is_event, is_well_nested}
use Rattle.ics_components.specs.FirstFault.{first_fault}
use Rattle.ics_components.specs.ParsedFileSeen.{ParsedFileSeen}
use Rattle.ics_components.specs.ParsedFiles.{nothing_parsed}
use Rattle.ics_components.specs.PartFaults.{earlier}
use Rattle.ics_components.specs.Parted.{AreInPlace, begins_part, is_line_of, parted_lines}
use Rattle.ics_components.specs.PlacedLines.{Placed}
use Rattle.ics_components.proofs.ChosenLines.{AreChosen, chosen_in_place, fault_of}
use Rattle.ics_components.proofs.Folds.{item_read}
use Rattle.ics_components.proofs.ParsedItems.{chosen_parsed, parsed_checks, parsed_in}
use Rattle.ics_components.proofs.ItemFaults.{AreApart, IsIn}
use Rattle.ics_components.proofs.Opened.{begins_taken}
use Rattle.ics_components.proofs.PassLemmas.{parsed_from}
use Rattle.ics_components.proofs.RestFaults.{in-filter, is_rest, never-both, not-true, of-one, own-line, rest_chosen}
use Rattle.ics_components.proofs.RestFirst.{rest_first}
use Rattle.ics_calendar.specs.DeferredChecks.{KnownZones, with_files}
use Rattle.ics_calendar.specs.Files.{UnresolvedSaid, decide, later_fault, lines_say, said_of}
use Rattle.ics_calendar.specs.GivenFiles.{GivenFiles}
use Rattle.ics_calendar.specs.Parts.{fault_in, rest_of}
use Rattle.ics_calendar.specs.Inner.PartsRead.{fault_of_rest, fault_read}
use Rattle.ics_calendar.specs.Settled.{all_unknown, known_in, settled_by}
use Rattle.ics_calendar.specs.Inner.SoundParts.{listed}
use Rattle.ics_calendar.specs.Wanted.{each_once}
use Rattle.ics_calendar.proofs.LinesSettle.{lines_settle}
use Rattle.ics_calendar.proofs.PartFirst.{zone-nothing}

pub same-fault : (r : Result ParsedFileSeen Fault) → fault_of r ≡ fault_read r
same-fault (Ok read) = refl
same-fault (Err fault) = refl

flat-none : {X : Type 0} (f : Placed → List X) (ks : List Placed) → ((k : Placed) → IsIn k ks → f k ≡ []) → flat_map f ks ≡ []
flat-none f [] none = refl
flat-none f (k ∷ ks) none = ap (λ xs. xs ++ flat_map f ks) (none k (inl refl)) ∙ flat-none f ks (λ m i. none m (inr i))

module _ (ls : List Placed) (h : AreInPlace 0 [] ls) (nested : is_well_nested ls ≡ true) where
  chosen : AreChosen (is_rest ls) (begins_taken (is_rest ls) ls) ls
  chosen = rest_chosen ls h nested

  -- Time zones have no checks, and no event is left.
  zone-checks : (k : Placed) → IsIn k (filter begins_part (rest_of ls)) → (parsed_in (item_read ls k)).checks ≡ []
  zone-checks k i = (zone-nothing ls h k two.0 one.1 (no-event (is_event k) refl)).1
    where
      one : IsIn k (rest_of ls) × (begins_part k ≡ true)
      one = in-filter begins_part (rest_of ls) k i

      two : IsIn k ls × (is_rest ls k ≡ true)
      two = in-filter (is_rest ls) ls k one.0

      no-event : (t : Bool) → is_event k ≡ t → t ≡ false
      no-event false t = refl
      no-event true t =
          never-both (list_any (λ event. is_line_of event k) (all_events ls)) (of-one ls h k k two.0 t (own-line ls h k)) (not-true ls h _ two.1)

  -- So the rest has none, and no fault of the second round.
  module _ (none : first_fault (rest_of ls) ≡ None) where
    abbrev parsed : ParsedFileSeen
    parsed = parsed_from (rest_of ls) nothing_parsed [] (rest_of ls)

    no-checks : parsed.checks ≡ []
    no-checks =
        ap (λ (x : ParsedFileSeen). x.checks) (chosen_parsed (is_rest ls) (begins_taken (is_rest ls) ls) ls chosen none)
        ∙ parsed_checks ls (filter begins_part (rest_of ls))
        ∙ flat-none (λ k. (parsed_in (item_read ls k)).checks) (filter begins_part (rest_of ls)) zone-checks

    no-fault : (files : GivenFiles) → fault_in (lines_say files (rest_of ls)) ≡ []
    no-fault files =
        ap fault_in (ap (λ (said : UnresolvedSaid). said.says files) (sym (lines_settle (rest_of ls) (chosen_in_place (is_rest ls) _ ls chosen) none)))
        ∙ (λ i. fault_in (settled_by known parsed.events (no-checks i)))
      where
        known : KnownZones
        known = with_files (known_in parsed.zones) files (each_once (all_unknown (known_in parsed.zones).index parsed.checks))

  rest-says-first : (files : GivenFiles) → fault_in (lines_say files (rest_of ls)) ≡ listed (first_fault (rest_of ls))
  rest-says-first files = by_first (first_fault (rest_of ls)) refl
    where
      by_first : (o : Option Fault) → first_fault (rest_of ls) ≡ o → fault_in (lines_say files (rest_of ls)) ≡ listed o
      by_first None e = no-fault e files
      by_first (Some f) e = ap (λ o. fault_in (decide o (later_fault files (rest_of ls)) (said_of files (rest_of ls)))) e

pub rest-says : (files : GivenFiles) (ls : List Placed) → AreInPlace 0 [] ls → AreApart 0 ls → is_well_nested ls ≡ true →
    fault_in (lines_say files (rest_of ls)) ≡ listed (fault_of_rest (parted_lines ls))
rest-says files ls h apart nested =
    rest-says-first ls h nested files
    ∙ ap listed (rest_first ls h nested apart
    ∙ (λ i. fold (λ first zone. earlier first (same-fault zone.read i)) (parted_lines ls).outside (parted_lines ls).zones))
