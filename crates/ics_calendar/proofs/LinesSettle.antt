-- What is settled of what is gathered of lines in their places is what those lines say, where the first round finds nothing in them.
use Rattle.std.proofs.Common.{◌≡◌, ℕ, false, List, [], ◌∷◌, ◌++◌, filter, refl, sym, ap, ◌∙◌, Option, Some, None}
use Rattle.std.specs.List.{cons_option}
use Rattle.std.proofs.lemmas.Simd.{map-map}
use Rattle.ics_text.specs.Unfolded.{Line}
use Rattle.ics_text.specs.ContentLines.{Parts}
use Rattle.ics_components.specs.Faults.{stands}
use Rattle.ics_components.specs.FirstFault.{fault_at_end, first_fault, first_from, found, least_on}
use Rattle.ics_components.specs.ParsedFiles.{nothing_parsed}
use Rattle.ics_components.specs.ParsedFileSeen.{ParsedFileSeen}
use Rattle.ics_components.specs.Parted.{AreInPlace}
use Rattle.ics_components.specs.PlacedLines.{Open, Placed, beside}
use Rattle.ics_components.proofs.EndOrder.{events, events-are, names-begun, zones, zones-are}
use Rattle.ics_components.proofs.Frames.{with}
use Rattle.ics_components.proofs.Order.{begun, found-none, nested}
use Rattle.ics_components.proofs.PassLemmas.{checks_from, parsed_from}
use Rattle.ics_components.proofs.ReadOrder.{ordered_lines}
use Rattle.ics_calendar.specs.DeferredChecks.{KnownZones}
use Rattle.ics_calendar.specs.Files.{decide, later_fault, lines_say, said_of}
use Rattle.ics_calendar.specs.GivenFiles.{GivenFiles}
use Rattle.ics_calendar.specs.LaterFaults.{is_in_unknown_zone}
use Rattle.ics_calendar.specs.Settled.{known_in, settled_by, unresolved_by}
use Rattle.ics_calendar.specs.Wanted.{each_once, unknown_names, zones_with}
use Rattle.ics_calendar.specs.Zones.{zones_on}
use Rattle.ics_calendar.proofs.DeferredTable.{same-on}
use Rattle.ics_calendar.proofs.Settles.{Same, events-begun, one-check, one-name}

abbrev line_at : ℕ → Line
line_at number = record { number = number; bytes = []; folded = false }

module _ (known : KnownZones) (whole : List Placed) where
  one-line : (ls : List Placed) → ((before : List Placed) → first_from stands fault_at_end before ls ≡ None → Same known whole before ls) →
      (number : ℕ) (o : Option Parts) (path : List Open) (before : List Placed) →
      first_from stands fault_at_end before (with (line_at number) path o ∷ ls) ≡ None → Same known whole before (with (line_at number) path o ∷ ls)
  one-line ls again number None path before e = cc
  one-line ls again number (Some v) path before e =
      let l : Placed = with (line_at number) path (Some v) in
      let none = found-none number (least_on stands before l) (first_from stands fault_at_end (before ++ l ∷ []) ls) e in
      let step = same-on whole (line_at number) v (beside before l) path known (nested (λ kind. stands kind (beside before l) l) none.0) in
      let more = again (before ++ l ∷ []) none.1 in
      let one = one-check known number _ (checks_from whole (before ++ l ∷ []) ls) in (
        one.0 ∙ (λ i. found number (sym step.0 i) (more.0 i)),
        one.1 ∙ (λ i. cons_option (sym step.1 i) (more.1 i)) ∙ one-name known l (filter (is_in_unknown_zone known) ls) (is_in_unknown_zone known l),
      )

  pub same-lines : (ls before : List Placed) → first_from stands fault_at_end before ls ≡ None → Same known whole before ls
  same-lines [] before e = (refl, refl)
  same-lines (l ∷ ls) before e = one-line ls (λ b f. same-lines ls b f) l.number l.content l.path before e

-- LINES IN THEIR PLACES without a fault of the first round.
module _ (ls : List Placed) (h : AreInPlace 0 [] ls) (first : first_fault ls ≡ None) where
  abbrev parsed : ParsedFileSeen
  parsed = parsed_from ls nothing_parsed [] ls

  pub lines_settle : unresolved_by (known_in parsed.zones) parsed.events parsed.checks
      ≡ record { wants = each_once (unknown_names ls); says = λ files. lines_say files ls }
  lines_settle =
      rw (
        ordered_lines (zones ls) (zones-are ls) ls ls [] [] 0 refl tt h (λ e. refl) first,
        ordered_lines events events-are ls ls [] [] 0 refl tt h (λ e. refl) first,
        ← names-begun ls ls,
        map-map,
        (same-lines (zones_on ls) ls ls [] first).1,
      ) (λ i. record { wants = each_once (unknown_names ls); says = λ files. settled files i })
    where
      settled : (files : GivenFiles) → settled_by (zones_with files ls) (begun events ls ls) (checks_from ls [] ls) ≡ lines_say files ls
      settled files =
          let known : KnownZones = zones_with files ls in
          rw ((same-lines known ls ls [] first).0, events-begun known.index ls ls) (ap (λ o. decide o (later_fault files ls) (said_of files ls)) (sym first))
