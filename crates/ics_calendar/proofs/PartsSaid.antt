-- What the accepted parts of a file say together is what is kept of them.
use Rattle.std.proofs.Common.{◌≡◌, inl, inr, ℕ, Bool, true, false, ◌&&◌, ◌||◌, ◌==◌, List, [], ◌∷◌, filter, flat_map, map, refl, sym, ap, ◌∙◌}
use Rattle.std.proofs.Common.{Option, Some, None, Ok}
use Rattle.std.specs.Prelude.{is_none, is_ok, not}
use Rattle.std.specs.List.{Contains, list_any}
use Rattle.std.proofs.lemmas.Bool.{and_parts, eq-eqb}
use Rattle.std.proofs.lemmas.List.Folds.{list_any-append}
use Rattle.ics_text.specs.Unfolded.{begins_with_fold}
use Rattle.ics_components.specs.declared.deferred_check.ZoneName.{ZoneName}
use Rattle.ics_components.specs.declared.fault.Fault.{Fault}
use Rattle.ics_components.specs.declared.parsed_file.CalendarZone.{CalendarZone}
use Rattle.ics_components.specs.EventLines.{all_events, has_parts, is_event, with_uids}
use Rattle.ics_components.specs.FirstFault.{first_fault}
use Rattle.ics_components.specs.ParsedFileSeen.{ParsedFileSeen}
use Rattle.ics_components.specs.Parted.{PartedComponentSeen, component_seen, parted_lines}
use Rattle.ics_components.specs.PlacedLines.{Placed, placed}
use Rattle.ics_components.proofs.Folds.{item_read}
use Rattle.ics_components.proofs.ParsedItems.{parsed_in}
use Rattle.ics_components.proofs.ItemFaults.{IsIn}
use Rattle.ics_components.proofs.Opened.{any-in, in-any}
use Rattle.ics_components.proofs.PlacedApart.{AreParted, are_parted}
use Rattle.ics_components.proofs.RestFaults.{filter-in}
use Rattle.ics_file.specs.File.{FileSaid}
use Rattle.ics_calendar.specs.DeferredChecks.{KnownZones}
use Rattle.ics_calendar.specs.Files.{UnresolvedSaid, decide, later_fault, lines_say, said_of}
use Rattle.ics_calendar.specs.GivenFiles.{GivenFiles}
use Rattle.ics_calendar.specs.Parts.{Part, accepted_parts, is_parted, lines_of, parts_give, parts_of, said_in}
use Rattle.ics_calendar.specs.Inner.PartsRead.{AreRead, fault_needed, sound_in, sound_zones}
use Rattle.ics_calendar.specs.Inner.SoundParts.{PartsSeen, SoundEventSeen, accepted_of, gathered_of, given_by_parts, is_no_fault, is_sound, later_of}
use Rattle.ics_calendar.specs.Inner.SoundParts.{names_zone, of_parts, said_with, zones_for}
use Rattle.ics_calendar.proofs.FaultsNamed.{IsPartAt}
use Rattle.ics_calendar.proofs.OneEach.{one-each}
use Rattle.ics_calendar.proofs.OneUid.{in-contains, was-kept}
use Rattle.ics_calendar.proofs.PartChecks.{own, zones}
use Rattle.ics_calendar.proofs.PartEach.{of-part}
use Rattle.ics_calendar.proofs.PartEvents.{sounds}
use Rattle.ics_calendar.proofs.PartFirst.{IsPart, all_lines, is_event_of, part-member, part_events, part_says}
use Rattle.ics_calendar.proofs.PartLaws.{here}
use Rattle.ics_calendar.proofs.PartWords.{names}
use Rattle.ics_calendar.proofs.PartsChosen.{chosen-events, chosen-gathers, same-truth, unnumbered}
use Rattle.ics_calendar.proofs.PartsJoined.{AreAmong, AreFree, is-read, joined, joined-free, joined-is, none-is, none-joined}
use Rattle.ics_calendar.proofs.PartsJudged.{AreFirst, part-at}

-- A PART IS ACCEPTED where neither round finds a fault.
both-none : (first later : Option Fault) (said : FileSaid) → is_ok (decide first later said) ≡ (is_none first && is_none later)
both-none None None said = refl
both-none None (Some f) said = refl
both-none (Some f) later said = refl

abbrev accepts : GivenFiles → List Placed → Part → Bool
accepts files ls part = is_ok (lines_say files (lines_of ls part))

accepted-free : (files : GivenFiles) (ls : List Placed) (part : Part) → accepts files ls part ≡ true → first_fault (lines_of ls part) ≡ None
accepted-free files ls part e =
    let own : List Placed = lines_of ls part in
    none-is (first_fault own)
    (and_parts (is_none (first_fault own)) (is_none (later_fault files own))
    (sym (both-none (first_fault own) (later_fault files own) (said_of files own)) ∙ e)).0

module _ (known : KnownZones) (files : GivenFiles) (ls : List Placed) (parts : PartsSeen) where
  abbrev accepted_at : ℕ → Bool
  accepted_at n = is_sound parts.faults n && is_none (later_of known parts.events n)

  -- a part is accepted where its number is
  accepted-is : (part : Part) (n : ℕ) → IsPartAt known files (lines_of ls part) parts n → accepts files ls part ≡ accepted_at n
  accepted-is part n is =
      by_first (first_fault own) refl ∙ ap (λ o. is_no_fault o && is_none (later_of known parts.events n)) (sym is.first)
    where
      own : List Placed
      own = lines_of ls part

      by_first : (o : Option Fault) → first_fault own ≡ o →
          is_ok (decide o (later_fault files own) (said_of files own)) ≡ (is_no_fault (Some o) && is_none (later_of known parts.events n))
      by_first None e = both-none None (later_fault files own) (said_of files own) ∙ ap is_none (sym (is.later e))
      by_first (Some f) e = refl

-- THE TIME ZONES that the events of a part name, by what is kept of these.
or-false : (t : Bool) → (t || false) ≡ t
or-false true = refl
or-false false = refl

module _ (ls : List Placed) where
  -- what is kept of events that are read names what these do
  kept-names : (used : ZoneName) (k : Placed) → (read : ParsedFileSeen) × ((component_seen ls k).read ≡ Ok read) →
      list_any (names_zone used) (sounds 0 (component_seen ls k)) ≡ names ls used k
  kept-names used k read =
      ap (λ r. list_any (names_zone used) (sound_in 0 (component_seen ls k) r)) read.1 ∙ or-false (names ls used k)

  kept-name : (used : ZoneName) (ks : List Placed) → ((k : Placed) → IsIn k ks → (read : ParsedFileSeen) × ((component_seen ls k).read ≡ Ok read)) →
      list_any (names_zone used) (flat_map (λ k. sounds 0 (component_seen ls k)) ks) ≡ list_any (names ls used) ks
  kept-name used [] read = refl
  kept-name used (k ∷ ks) read =
      let one = kept-names used k (read k (inl refl)) in
      let more = kept-name used ks (λ m i. read m (inr i)) in
      list_any-append (names_zone used) (sounds 0 (component_seen ls k)) (flat_map (λ k. sounds 0 (component_seen ls k)) ks) ∙ (λ i. one i || more i)

-- whatever their numbers
any-numbered : (used : ZoneName) (events : List SoundEventSeen) → list_any (names_zone used) events ≡ list_any (names_zone used) (map unnumbered events)
any-numbered used [] = refl
any-numbered used (sound ∷ events) = ap (λ t. names_zone used sound || t) (any-numbered used events)

module _ (ls : List Placed) (are : AreParted ls) (part : Part) (is : IsPart ls part) where
  abbrev own_events : List Placed
  own_events = filter (is_event_of part) (all_events ls)

  -- the events of the file that have the numbers of those of the part name what these do
  same-names : (used : ZoneName) → list_any (names ls used) own_events ≡ list_any (names ls used) part
  same-names used = same-truth (list_any (names ls used) own_events) (list_any (names ls used) part) into back
    where
      into : list_any (names ls used) own_events ≡ true → list_any (names ls used) part ≡ true
      into e =
          let f = in-any (names ls used) own_events e in
          any-in (names ls used) part f.one (of-part ls are.in_place part is f.one f.among) f.holds

      back : list_any (names ls used) part ≡ true → list_any (names ls used) own_events ≡ true
      back e =
          let f = in-any (names ls used) part e in
          let m = part-member ls part is f.one f.among in
          any-in (names ls used) own_events f.one
          (filter-in (is_event_of part) (all_events ls) f.one (filter-in is_event ls f.one m.0 m.1)
          (any-in (λ event. f.one.number == event.number) part f.one f.among (eq-eqb f.one.number f.one.number refl))) f.holds

  module _ (events : List SoundEventSeen)
      (kept : map unnumbered events ≡ flat_map (λ k. sounds 0 (component_seen ls k)) (filter (is_event_of part) (all_events ls)))
      (reads : (k : Placed) → IsIn k part → (read : ParsedFileSeen) × ((component_seen ls k).read ≡ Ok read)) where
    one-name : (used : ZoneName) → list_any (names_zone used) events ≡ list_any (names ls used) part
    one-name used =
        any-numbered used events ∙ ap (list_any (names_zone used)) kept
        ∙ kept-name ls used own_events (λ k i. reads k (of-part ls are.in_place part is k i)) ∙ same-names used

    pub zones-named : (zones : List CalendarZone) → zones_for events zones ≡ filter (λ zone. list_any (names ls zone.name) part) zones
    zones-named zones = λ i. filter (λ zone. one-name zone.name i) zones

-- WHAT A PART SAYS, by what is kept of its events.
filter-none : {X : Type 0} (xs : List X) → filter (λ x. false) xs ≡ []
filter-none [] = refl
filter-none (x ∷ xs) = filter-none xs

abbrev gathered_by : List Placed → Part → ParsedFileSeen
gathered_by ls part = record {
  zones = filter (λ zone. list_any (names ls zone.name) part) (sound_zones (parted_lines ls).zones);
  events = flat_map (λ e. (parsed_in (item_read ls e)).events) (filter (is_event_of part) (all_events ls));
  checks = flat_map (λ e. (parsed_in (item_read ls e)).checks) (filter (is_event_of part) (all_events ls));
}

-- no events say nothing
nothing-said : (files : GivenFiles) (ls : List Placed) → said_with (gathered_by ls []) files ≡ said_in (lines_say files (lines_of ls []))
nothing-said files ls =
    (λ i. said_with (record {
      zones = filter-none (sound_zones (parted_lines ls).zones) i;
      events = flat_map (λ e. (parsed_in (item_read ls e)).events) (filter-none (all_events ls) i);
      checks = flat_map (λ e. (parsed_in (item_read ls e)).checks) (filter-none (all_events ls) i);
    }) files)
    ∙ ap (λ (lines : List Placed). said_in (lines_say files lines)) (sym (filter-none ls))

module _ (files : GivenFiles) (ls : List Placed) (are : AreParted ls) where
  -- without a fault of the first round
  part-said : (part : Part) → IsPart ls part → ((event : Placed) → Contains part event → first_fault (lines_of ls part) ≡ None) →
      said_with (gathered_by ls part) files ≡ said_in (lines_say files (lines_of ls part))
  part-said [] is free = nothing-said files ls
  part-said (e ∷ es) is free =
      let part : Part = e ∷ es in
      let none = free e (here e es) in
      (λ i. said_with (record {
        zones = zones ls are.in_place are.nested part is none i;
        events = sym (part_events ls are.in_place part is are.nested none) i;
        checks = own ls are.in_place are.nested part is none i;
      }) files)
      ∙ ap (λ (u : UnresolvedSaid). said_in (u.says files)) (part_says ls are.in_place part is are.nested none)

-- WHAT IS KEPT OF THE ACCEPTED PARTS.
module _ (known : KnownZones) (files : GivenFiles) (title bytes : List ℕ) (parts : PartsSeen) (parted : is_parted bytes ≡ true) where
  abbrev lines : List Placed
  lines = with_uids title (placed bytes)

  abbrev needed : PartedComponentSeen → Option Fault
  needed = fault_needed (parted_lines lines)

  abbrev accepted : List Part
  accepted = accepted_parts files lines

  are : AreParted lines
  are = are_parted title bytes (and_parts (not (begins_with_fold bytes)) (has_parts (placed bytes)) parted).1

  among : AreAmong lines accepted
  among part k = (was-kept (accepts files lines) (parts_of lines) part k).1

  free : AreFree lines accepted
  free part k = accepted-free files lines part (was-kept (accepts files lines) (parts_of lines) part k).0

  module _ (read : AreRead (parted_lines lines) parts) (first : AreFirst needed known files lines parts) where
    events-kept : map unnumbered (accepted_of known parts.faults parts.events)
        ≡ flat_map (λ k. sounds 0 (component_seen lines k)) (filter (is_event_of (joined accepted)) (all_events lines))
    events-kept =
        ap (λ (events : List SoundEventSeen). map unnumbered (of_parts (accepted_at known files lines parts) events)) first.events
        ∙ chosen-events needed lines are.in_place (accepted_at known files lines parts) (accepts files lines)
        (λ part n k is. accepted-is known files lines parts part n (part-at needed known files lines parts first part n k is))
        (λ part k e event h. one-each files title bytes part k (accepted-free files lines part e) event h)

    all-kept : gathered_of (accepted_of known parts.faults parts.events) (zones_for (accepted_of known parts.faults parts.events) parts.zones)
        ≡ gathered_by lines (joined accepted)
    all-kept = λ i. record { zones = kept-zones i; events = kept-events i; checks = kept-checks i }
      where
        events : List SoundEventSeen
        events = accepted_of known parts.faults parts.events

        part : Part
        part = joined accepted

        kept-zones : zones_for events parts.zones ≡ filter (λ zone. list_any (names lines zone.name) part) (sound_zones (parted_lines lines).zones)
        kept-zones =
            zones-named lines are part (joined-is lines accepted among) events events-kept
            (λ k i. is-read lines k (none-joined lines are accepted among free k (in-contains part k i))) parts.zones
            ∙ ap (filter (λ zone. list_any (names lines zone.name) part)) read.zones

        kept-events : flat_map (λ sound. sound.read.events) events
            ≡ flat_map (λ e. (parsed_in (item_read lines e)).events) (filter (is_event_of part) (all_events lines))
        kept-events = chosen-gathers (λ (x : ParsedFileSeen). x.events) refl lines part events events-kept

        kept-checks : flat_map (λ sound. sound.read.checks) events
            ≡ flat_map (λ e. (parsed_in (item_read lines e)).checks) (filter (is_event_of part) (all_events lines))
        kept-checks = chosen-gathers (λ (x : ParsedFileSeen). x.checks) refl lines part events events-kept

    -- WHAT THE ACCEPTED PARTS SAY is what is kept of them.
    pub parts-said : (fault : Fault) → (given_by_parts known parts files fault).said ≡ (parts_give files lines fault).said
    parts-said fault =
        ap (λ (gathered : ParsedFileSeen). said_with gathered files) all-kept
        ∙ part-said files lines are (joined accepted) (joined-is lines accepted among) (joined-free lines are accepted among free)
        ∙ ap (λ (ls : List Placed). said_in (lines_say files ls)) (sym (all_lines lines accepted))
