-- A file gives one thing with all zone files that agree on the names that its parts want.
use Rattle.std.proofs.Common.{◌≡◌, inl, inr, ℕ, Bool, true, false, ◌&&◌, not, ◌==◌, List, [], ◌∷◌, ◌++◌, filter, refl, sym, ap, ◌∙◌, arith, cond, subst}
use Rattle.std.proofs.Common.{Option, Some, None, Result, Ok, Err}
use Rattle.std.specs.Prelude.{is_none, is_ok}
use Rattle.std.specs.List.{All, Contains, flat_map, list_all, list_any}
use Rattle.std.proofs.lemmas.Bool.{eq-eqb, not-true}
use Rattle.std.proofs.lemmas.List.Elements.{All-contains}
use Rattle.ics_text.specs.Unfolded.{begins_with_fold, unfolded}
use Rattle.ics_text.proofs.Rising.{unfolded-rises}
use Rattle.ics_components.specs.declared.fault.Fault.{Fault}
use Rattle.ics_components.specs.EventLines.{all_events, breaks_off, has_parts, is_certain, is_event, is_well_nested, with_uids}
use Rattle.ics_components.specs.FirstFault.{bad_fold, first_fault, first_from}
use Rattle.ics_components.specs.PartFaults.{is_within}
use Rattle.ics_components.specs.PlacedLines.{Placed, in_event, innermost, placed}
use Rattle.ics_components.proofs.ItemFaults.{IsIn}
use Rattle.ics_components.proofs.Opened.{above, any-in}
use Rattle.ics_components.proofs.PlacedApart.{AreParted, are_parted}
use Rattle.ics_components.proofs.Placing.{in_place}
use Rattle.ics_components.proofs.RestFaults.{filter-in, in-filter, never-both, right-or, two-of}
use Rattle.ics_file.specs.File.{FileSaid}
use Rattle.ics_calendar.specs.DeferredChecks.{KnownZones}
use Rattle.ics_calendar.specs.Files.{decide, events_of, file_of, later_fault, lines_say, said_of, wanted_names}
use Rattle.ics_calendar.specs.GivenFiles.{GivenFiles}
use Rattle.ics_calendar.specs.LaterFaults.{has_zone, is_in_unknown_zone, is_in_zone, stands_later, tzid_on}
use Rattle.ics_calendar.specs.Parts.{Part, accepted_parts, fault_in, file_gives, given_where, in_order, is_in_part, is_of, is_parted, lines_of, lines_of_all}
use Rattle.ics_calendar.specs.Parts.{names_for_parts, nothing_said, parts_give, parts_of, rest_of, said_in, sound_parts}
use Rattle.ics_calendar.specs.Wanted.{each_once, unknown_names}
use Rattle.ics_calendar.specs.Zones.{zones_on}
use Rattle.ics_calendar.proofs.FaultlessLines.{IsFaultless, uids-stay, zone-titled}
use Rattle.ics_calendar.proofs.FileLaws.{only-wanted}
use Rattle.ics_calendar.proofs.FilesGiven.{with-agreed}
use Rattle.ics_calendar.proofs.OneEach.{part-within}
use Rattle.ics_calendar.proofs.OneUid.{all-by, contains-in, in-contains, was-flattened, was-kept, was-mapped, was-once}
use Rattle.ics_calendar.proofs.PartFirst.{IsPart, all_lines}
use Rattle.ics_calendar.proofs.Partly.{wants-whole}
use Rattle.ics_calendar.proofs.PartLaws.{flattened, here, kept, once, there}
use Rattle.ics_calendar.proofs.UnknownInParts.{IsChosen, IsWider, event-begun, inner-within, part-wider, still-unknown}

-- LISTS by functions that agree on their elements.
module _ {X Y : Type 0} (f g : X → Y) where
  kept-alike : (p : Y → Bool) (xs : List X) → ((x : X) → Contains xs x → f x ≡ g x) → filter (λ x. p (f x)) xs ≡ filter (λ x. p (g x)) xs
  kept-alike p [] each = refl
  kept-alike p (x ∷ xs) each =
      let one = each x (here x xs) in
      let more = kept-alike p xs (λ y c. each y (there x xs y c)) in
      λ i. cond (p (one i)) (x ∷ more i) (more i)

  flat-alike : {Z : Type 0} (k : Y → List Z) (xs : List X) → ((x : X) → Contains xs x → f x ≡ g x) → flat_map (λ x. k (f x)) xs ≡ flat_map (λ x. k (g x)) xs
  flat-alike k [] each = refl
  flat-alike k (x ∷ xs) each =
      let one = each x (here x xs) in
      let more = flat-alike k xs (λ y c. each y (there x xs y c)) in
      λ i. k (one i) ++ more i

-- ZONE FILES THAT AGREE on some names.
abbrev pub Agree : GivenFiles → GivenFiles → List (List ℕ) → Type 0
Agree files others names = (n : List ℕ) → Contains names n → files n ≡ others n

-- Some lines say one thing with those that agree on their unknown names, if no fault of the first round stands in them, and else with all.
abbrev said_by : List Placed → KnownZones → Result FileSaid Fault
said_by ks known =
    decide None (first_from (stands_later known) (λ before. None) [] ks) (record { zones = known.zones; events = events_of known.index ks })

pub says-alike : (files others : GivenFiles) (ks : List Placed) → (first_fault ks ≡ None → Agree files others (unknown_names ks)) →
    lines_say files ks ≡ lines_say others ks
says-alike files others ks agree = by_first (first_fault ks) refl
  where
    by_first : (o : Option Fault) → first_fault ks ≡ o →
        decide o (later_fault files ks) (said_of files ks) ≡ decide o (later_fault others ks) (said_of others ks)
    by_first (Some f) e = refl
    by_first None e =
        ap (said_by ks)
        (with-agreed (zones_on ks) files others (each_once (unknown_names ks))
        (all-by (λ n. files n ≡ others n) (each_once (unknown_names ks)) (λ n c. agree e n (was-once (unknown_names ks) n c))))

-- The rest of a file has no lines of an event, so that it says one thing with all zone files.
pub rest-alike : (files others : GivenFiles) (ls : List Placed) → AreParted ls → lines_say files (rest_of ls) ≡ lines_say others (rest_of ls)
rest-alike files others ls are = says-alike files others (rest_of ls) (λ none n c. absurd (never n c))
  where
    never : (n : List ℕ) → Contains (unknown_names (rest_of ls)) n → ⊥
    never n c =
        let was = was-mapped tzid_on (filter (is_in_unknown_zone (zones_on (rest_of ls))) (rest_of ls)) n c in
        let x : Placed = was.0 in
        let unknown = was-kept (is_in_unknown_zone (zones_on (rest_of ls))) (rest_of ls) x was.1 in
        let zoned = two-of (is_in_zone x) (not (has_zone (zones_on (rest_of ls)) x)) unknown.0 in
        let left = in-filter (λ line. not (list_any (λ event. is_of event line) (all_events ls))) ls x (contains-in (rest_of ls) x unknown.1) in
        let b = event-begun ls are.in_place x left.0 (two-of (in_event x) _ zoned.0).0 in
        let event : is_event b.event ≡ true = b.is in
        let within =
        inner-within x.path b.event.number (above ls 0 [] are.in_place b.event b.among).1 (eq-eqb (innermost x.path) b.event.number b.inner) in
        let of : is_of b.event x ≡ true = right-or (x.number == b.event.number) (is_within b.event.number x) within in
        let any = any-in (λ event. is_of event x) (all_events ls) b.event (filter-in is_event ls b.event b.among event) of in
        let no : not true ≡ true = sym (ap not any) ∙ left.1 in
        cc

-- SEVERAL PARTS, by their events.
abbrev joined : List Part → Part
joined parts = flat_map (λ part. part) parts

module _ (ls : List Placed) (are : AreParted ls) where
  abbrev IsOfPart : List Part → Placed → Type 0
  IsOfPart parts e = (part : Part) × Contains parts part × Contains part e

  in-joined : (parts : List Part) (e : Placed) → IsIn e (joined parts) → IsOfPart parts e
  in-joined parts e i = was-flattened (λ part. part) parts e (in-contains (joined parts) e i)

  joined-in : (parts : List Part) (part : Part) (e : Placed) → Contains parts part → Contains part e → IsIn e (joined parts)
  joined-in parts part e c k = contains-in (joined parts) e (flattened (λ part. part) parts part e c k)

  is-part : (some : Part) → ((e : Placed) → IsIn e some → IsOfPart (parts_of ls) e) → IsPart ls some
  is-part [] each = tt
  is-part (e ∷ es) each =
      let p = each e (inl refl) in
      let event = was-kept is_event ls e (part-within ls p.0 e p.1 p.2) in
      ((contains-in ls e event.1, event.0), is-part es (λ k i. each k (inr i)))

  -- all sound parts as one
  abbrev sound : Part
  sound = joined (sound_parts ls)

  was-sound : (e : Placed) → IsIn e sound → IsOfPart (parts_of ls) e
  was-sound e i =
      let p = in-joined (sound_parts ls) e i in
      (p.0, (was-kept (λ part. is_none (first_fault (lines_of ls part))) (parts_of ls) p.0 p.1).1, p.2)

  is-sound : (part : Part) → Contains (parts_of ls) part → is_none (first_fault (lines_of ls part)) ≡ true → (e : Placed) → Contains part e → IsIn e sound
  is-sound part c none e k =
      joined-in (sound_parts ls) part e (kept (λ part. is_none (first_fault (lines_of ls part))) (parts_of ls) part none c) k

  chosen : (some : Part) → ((e : Placed) → IsIn e some → IsIn e sound) → IsChosen ls some
  chosen some sub = record { in_place = are.in_place; nested = are.nested; is = is-part some (λ e i. was-sound e (sub e i)) }

  -- The names that sound parts want are wanted by more lines.
  pub sound-unknown : (qs : List Placed) → IsWider ls sound qs → (n : List ℕ) → Contains (unknown_names (lines_of_all ls (sound_parts ls))) n →
      Contains (unknown_names qs) n
  sound-unknown qs w n c =
      still-unknown (chosen sound (λ e i. i)) w n (subst (λ ks. Contains (unknown_names ks) n) (all_lines ls (sound_parts ls)) c)

  pub whole-wider : IsFaultless ls → IsWider ls sound ls
  whole-wider f = record {
    within = λ k i. i;
    more = λ k i. (in-filter (λ l. is_in_part ls l sound) ls k i).0;
    titled = zone-titled ls f;
    whole = λ n each. refl;
  }

  -- WHAT THE PARTS GIVE with zone files that agree on what they want.
  module _ (files others : GivenFiles) (agree : Agree files others (unknown_names (lines_of_all ls (sound_parts ls)))) where
    some-agree : (some : Part) → ((e : Placed) → IsIn e some → IsIn e sound) → Agree files others (unknown_names (lines_of ls some))
    some-agree some sub n c =
        agree n (subst (λ ks. Contains (unknown_names ks) n) (sym (all_lines ls (sound_parts ls)))
        (still-unknown (chosen some sub) (part-wider (chosen some sub) sound (chosen sound (λ e i. i)).is sub) n c))

    part-alike : (part : Part) → Contains (parts_of ls) part → lines_say files (lines_of ls part) ≡ lines_say others (lines_of ls part)
    part-alike part c =
        says-alike files others (lines_of ls part)
        (λ none. some-agree part (λ e i. is-sound part c (ap is_none none) e (in-contains part e i)))

    accepted-alike : accepted_parts files ls ≡ accepted_parts others ls
    accepted-alike =
        kept-alike (λ part. lines_say files (lines_of ls part)) (λ part. lines_say others (lines_of ls part)) is_ok (parts_of ls) part-alike

    abbrev accepted : List Part
    accepted = accepted_parts others ls

    ok-none : (first later : Option Fault) (said : FileSaid) → is_ok (decide first later said) ≡ true → is_none first ≡ true
    ok-none None later said e = refl
    ok-none (Some fault) later said e = cc

    accepted-sound : (e : Placed) → IsIn e (joined accepted) → IsIn e sound
    accepted-sound e i =
        let p = in-joined accepted e i in
        let own : List Placed = lines_of ls p.0 in
        let was = was-kept (λ part. is_ok (lines_say others (lines_of ls part))) (parts_of ls) p.0 p.1 in
        is-sound p.0 was.1 (ok-none (first_fault own) (later_fault others own) (said_of others own) was.0) e p.2

    said-alike : lines_say files (lines_of_all ls accepted) ≡ lines_say others (lines_of_all ls accepted)
    said-alike =
        says-alike files others (lines_of_all ls accepted)
        (λ none n c. some-agree (joined accepted) accepted-sound n (subst (λ ks. Contains (unknown_names ks) n) (all_lines ls accepted) c))

    pub gives-alike : (fault : Fault) → parts_give files ls fault ≡ parts_give others ls fault
    gives-alike fault =
        let said = ap (λ parts. lines_say files (lines_of_all ls parts)) accepted-alike ∙ said-alike in
        let faults =
        flat-alike (λ part. lines_say files (lines_of ls part)) (λ part. lines_say others (lines_of ls part)) fault_in (parts_of ls) part-alike in
        let rest = rest-alike files others ls are in
        λ i. record { said = said_in (said i); faults = in_order (fault ∷ (faults i ++ fault_in (rest i))) }

-- WHAT A FILE GIVES.
module _ (files others : GivenFiles) (name file : List ℕ) where
  abbrev Agrees : List ℕ → Type 0
  Agrees n = files n ≡ others n

  abbrev lines : List Placed
  lines = with_uids name (placed file)

  by-answer : file_of files file ≡ file_of others file →
      (is_parted file ≡ true → (fault : Fault) → parts_give files lines fault ≡ parts_give others lines fault) →
      file_gives files name file ≡ file_gives others name file
  by-answer same parts = ap (given_where files name file) same ∙ by_answer (file_of others file)
    where
      by_answer : (r : Result FileSaid Fault) → given_where files name file r ≡ given_where others name file r
      by_answer (Ok said) = refl
      by_answer (Err fault) = by_test (is_parted file) refl
        where
          by_test : (t : Bool) → is_parted file ≡ t →
              cond t (parts_give files lines fault) (record { said = nothing_said; faults = fault ∷ [] })
              ≡ cond t (parts_give others lines fault) (record { said = nothing_said; faults = fault ∷ [] })
          by_test true p = parts p fault
          by_test false p = refl

  parted : is_parted file ≡ true → (not (begins_with_fold file) ≡ true) × (has_parts (placed file) ≡ true)
  parted p = two-of (not (begins_with_fold file)) (has_parts (placed file)) p

  -- where the first round finds a fault
  behind-fault : (found : Fault) → first_fault (placed file) ≡ Some found → All Agrees (names_for_parts name file) → is_parted file ≡ true → (fault : Fault) →
      parts_give files lines fault ≡ parts_give others lines fault
  behind-fault found e all p =
      let names : List (List ℕ) = unknown_names (lines_of_all lines (sound_parts lines)) in
      let wants : names_for_parts name file ≡ each_once names = rw (e, p) refl in
      gives-alike lines (are_parted name file (parted p).1) files others
      (λ n c. All-contains Agrees (each_once names) n (subst (All Agrees) wants all) (once names n c))

  -- and where it finds none
  three : (a b c : Bool) → ((a && b) && c) ≡ true → a ≡ true
  three a b c e = grind (arith, e)

  behind-none : first_fault (placed file) ≡ None → All Agrees (wanted_names file) → is_parted file ≡ true → (fault : Fault) →
      parts_give files lines fault ≡ parts_give others lines fault
  behind-none e all p fault =
      ap (λ ls. parts_give files ls fault) stay ∙ gives-alike (placed file) are files others agree fault
      ∙ ap (λ ls. parts_give others ls fault) (sym stay)
    where
      faultless : IsFaultless (placed file)
      faultless = record {
        in_place = in_place None (unfolded file) 0 [] (unfolded-rises file) tt (omega arith);
        nested =
            three (is_well_nested (placed file)) (not (breaks_off (placed file))) (list_all (is_certain (placed file)) (all_events (placed file))) (parted p).1;
        free = e;
      }

      stay : lines ≡ placed file
      stay = uids-stay (placed file) faultless name

      are : AreParted (placed file)
      are = subst AreParted stay (are_parted name file (parted p).1)

      wants : wanted_names file ≡ each_once (unknown_names (placed file))
      wants = rw (not-true (begins_with_fold file) (parted p).0, e) refl

      agree : Agree files others (unknown_names (lines_of_all (placed file) (sound_parts (placed file))))
      agree n c =
          All-contains Agrees (each_once (unknown_names (placed file))) n (subst (All Agrees) wants all)
          (once (unknown_names (placed file)) n (sound-unknown (placed file) are (placed file) (whole-wider (placed file) are faultless) n c))

  pub names-count : All Agrees (names_for_parts name file) → file_gives files name file ≡ file_gives others name file
  names-count all = by_first (first_fault (placed file)) refl
    where
      by_first : (o : Option Fault) → first_fault (placed file) ≡ o → file_gives files name file ≡ file_gives others name file
      by_first None e =
          let wanted : All Agrees (wanted_names file) = subst (All Agrees) (wants-whole name file e) all in
          by-answer (only-wanted files others file wanted) (behind-none e wanted)
      by_first (Some found) e =
          by-answer
          (ap (cond (begins_with_fold file) (Err bad_fold))
          (says-alike files others (placed file) (λ none. never-both (is_none (first_fault (placed file))) (ap is_none none) (ap is_none e))))
          (behind-fault found e all)
