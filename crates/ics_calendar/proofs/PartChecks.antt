-- What the second round finds in a part is what it finds in the checks of its events, also where all sound time zones of the file are known.
use Rattle.std.proofs.Common.{◌≡◌, ℕ, true, ◌==◌, List, [], map, filter, refl, sym, ap, ◌∙◌, Option, Some, None}
use Rattle.std.proofs.Common.{Result, Ok, Err, subst}
use Rattle.std.specs.Cmp.Lexicographic.{bytes_decides}
use Rattle.std.specs.List.{All, Contains, flat_map, list_any}
use Rattle.std.specs.Str.{bytes_eq}
use Rattle.std.proofs.lemmas.Bool.{eqb-true}
use Rattle.std.proofs.lemmas.List.Elements.{All-contains}
use Rattle.ics_components.specs.declared.deferred_check.DeferredCheck.{DeferredCheck}
use Rattle.ics_components.specs.declared.deferred_check.DeferredCheck.TheVariants as check
use Rattle.ics_components.specs.declared.deferred_check.Instant.{Instant}
use Rattle.ics_components.specs.declared.deferred_check.Instant.TheVariants as instant
use Rattle.ics_components.specs.declared.deferred_check.ZoneName.{ZoneName}
use Rattle.ics_components.specs.declared.fault.Fault.{Fault}
use Rattle.ics_components.specs.declared.parsed_file.CalendarZone.{CalendarZone}
use Rattle.ics_components.specs.declared.parsed_file.LineCheck.{LineCheck}
use Rattle.ics_components.specs.EventLines.{all_events, is_event, is_well_nested}
use Rattle.ics_components.specs.FirstFault.{first_fault}
use Rattle.ics_components.specs.Observances.{begins_zone}
use Rattle.ics_components.specs.ParsedFiles.{nothing_parsed}
use Rattle.ics_components.specs.ParsedFileSeen.{ParsedFileSeen}
use Rattle.ics_components.specs.Parted.{AreInPlace, begins_part, component_seen, parted_lines}
use Rattle.ics_components.specs.PlacedLines.{Placed}
use Rattle.ics_components.proofs.Folds.{item_read}
use Rattle.ics_components.proofs.ParsedItems.{parsed_in}
use Rattle.ics_components.proofs.ItemFaults.{IsIn}
use Rattle.ics_components.proofs.Opened.{any-in}
use Rattle.ics_components.proofs.PassLemmas.{parsed_from}
use Rattle.ics_components.proofs.RestFaults.{in-filter, left-or, right-or, two-of}
use Rattle.ics_file.specs.File.{FileSaid}
use Rattle.ics_calendar.specs.DeferredChecks.{is_same, with_files}
use Rattle.ics_calendar.specs.Files.{UnresolvedSaid, decide, later_fault, said_of}
use Rattle.ics_calendar.specs.GivenFiles.{GivenFiles}
use Rattle.ics_calendar.specs.Parts.{Part, lines_of}
use Rattle.ics_calendar.specs.Inner.PartsRead.{sound_zones, zones_in}
use Rattle.ics_calendar.specs.Settled.{all_unknown, first_judged, known_in}
use Rattle.ics_calendar.specs.Wanted.{each_once, unknown_names}
use Rattle.ics_calendar.proofs.EventAsks.{IsAsked, IsInstantAsked, event-asks}
use Rattle.ics_calendar.proofs.EventNames.{event-names}
use Rattle.ics_calendar.proofs.OneUid.{all-by, contains-in, in-contains, was-flattened, was-mapped}
use Rattle.ics_calendar.proofs.PartEach.{of-part}
use Rattle.ics_calendar.proofs.PartFirst.{IsPart, is_event_of, is_zone_for, part_checks, part_says, part_zones}
use Rattle.ics_calendar.proofs.PartLaws.{flattened, mapped, no-element}
use Rattle.ics_calendar.proofs.PartWords.{names}
use Rattle.ics_calendar.proofs.PartZones.{part-zones}
use Rattle.ics_calendar.proofs.PartsChosen.{same-flat}
use Rattle.ics_calendar.proofs.ZonesKept.{CheckAlike, InstantAlike, IsAlike, zone-kept, zone_named}

pub same-name : (a b : ZoneName) → is_same a b ≡ true → a ≡ b
same-name a b e =
    let two = two-of (a.calendar == b.calendar) (bytes_eq a.name b.name) e in
    let calendar = eqb-true a.calendar b.calendar two.0 in
    let name = (bytes_decides a.name b.name).0 two.1 in
    λ i. record { calendar = calendar i; name = name i }

same-later : (a b : Option Fault) (s t : FileSaid) → decide None a s ≡ decide None b t → a ≡ b
same-later None None s t e = refl
same-later None (Some g) s t e = cc
same-later (Some f) None s t e = cc
same-later (Some f) (Some g) s t e = let same : f ≡ g = cc in ap (λ (x : Fault). Some x) same

-- what an event or a time zone is read to, among all lines
pub read-is : (ls : List Placed) (e : Placed) → begins_part e ≡ true → item_read ls e ≡ (component_seen ls e).read
read-is ls e begins = rw begins refl

pub zones-read : (r : Result ParsedFileSeen Fault) → (parsed_in r).zones ≡ zones_in r
zones-read (Ok read) = refl
zones-read (Err fault) = refl

module _ (ls : List Placed) (h : AreInPlace 0 [] ls) (nested : is_well_nested ls ≡ true) (part : Part) (is : IsPart ls part) where
  -- the events of the part, their checks, and the time zones that they name
  abbrev pub items : List Placed
  items = filter (is_event_of part) (all_events ls)

  abbrev pub checks_on : Placed → List LineCheck
  checks_on e = (parsed_in (item_read ls e)).checks

  abbrev pub checks : List LineCheck
  checks = flat_map checks_on items

  abbrev pub all_zones : List CalendarZone
  all_zones = sound_zones (parted_lines ls).zones

  abbrev pub some_zones : List CalendarZone
  some_zones = filter (λ zone. list_any (names ls zone.name) part) all_zones

  zones-are : flat_map (λ z. (parsed_in (item_read ls z)).zones) (filter (is_zone_for ls part) (filter begins_zone ls)) ≡ some_zones
  zones-are =
      same-flat (λ z. (parsed_in (item_read ls z)).zones) (λ z. zones_in (component_seen ls z).read) (filter (is_zone_for ls part) (filter begins_zone ls))
      (λ z i. let begins = (in-filter begins_zone ls z (in-filter (is_zone_for ls part) (filter begins_zone ls) z i).0).1 in
      ap (λ r. (parsed_in r).zones) (read-is ls z (right-or (is_event z) (begins_zone z) begins)) ∙ zones-read (component_seen ls z).read)
      ∙ part-zones ls h nested part is

  -- WITHOUT A FAULT of the first round: what the part wants, and its fault of the second.
  module _ (none : first_fault (lines_of ls part) ≡ None) where
    abbrev gathered : ParsedFileSeen
    gathered = parsed_from (lines_of ls part) nothing_parsed [] (lines_of ls part)

    pub zones : some_zones ≡ gathered.zones
    zones = sym zones-are ∙ sym (part_zones ls h part is nested none)

    pub own : checks ≡ gathered.checks
    own = sym (part_checks ls h part is nested none)

    pub wants-are : each_once (all_unknown (known_in some_zones).index checks) ≡ each_once (unknown_names (lines_of ls part))
    wants-are =
        (λ i. each_once (all_unknown (known_in (zones i)).index (own i))) ∙ ap (λ (u : UnresolvedSaid). u.wants) (part_says ls h part is nested none)

    pub later-is : (files : GivenFiles) →
        first_judged (with_files (known_in some_zones) files (each_once (all_unknown (known_in some_zones).index checks))) checks
        ≡ later_fault files (lines_of ls part)
    later-is files =
        (λ i. first_judged (with_files (known_in (zones i)) files (each_once (all_unknown (known_in (zones i)).index (own i)))) (own i))
        ∙ same-later _ (later_fault files (lines_of ls part)) _ (said_of files (lines_of ls part))
        (ap (λ (u : UnresolvedSaid). u.says files) (part_says ls h part is nested none)
        ∙ ap (λ o. decide o (later_fault files (lines_of ls part)) (said_of files (lines_of ls part))) none)

  -- ALL SOUND TIME ZONES of the file have the same of each name that a check uses.
  named-zone : (used : ZoneName) (e : Placed) → IsIn e part → names ls used e ≡ true → zone_named used some_zones ≡ zone_named used all_zones
  named-zone used e i t =
      zone-kept used (λ zone. list_any (names ls zone.name) part) all_zones
      (λ zone same. any-in (names ls zone.name) part e i (subst (λ u. names ls u e ≡ true) (same-name used zone.name same) t))

  abbrev pub IsWanted : ZoneName → Type 0
  IsWanted used = Contains (map (λ w. w.check) checks) (check.Zone used)

  module _ (files : GivenFiles) (some wanted : List (List ℕ))
      (same : (used : ZoneName) → IsWanted used → zone_named used some_zones ≡ None → zone_named used all_zones ≡ None →
      list_any (bytes_eq used.name) some ≡ list_any (bytes_eq used.name) wanted) where
    abbrev Alike : DeferredCheck → Type 0
    Alike c = CheckAlike files some_zones all_zones some wanted c

    module _ (e : Placed) (i : IsIn e items) (read : ParsedFileSeen) (is_read : (component_seen ls e).read ≡ Ok read) where
      among : IsIn e part
      among = of-part ls h part is e i

      there : IsIn e ls × (is_event e ≡ true)
      there = in-filter is_event ls e (in-filter (is_event_of part) (all_events ls) e i).0

      checks-there : checks_on e ≡ read.checks
      checks-there = ap (λ r. (parsed_in r).checks) (read-is ls e (left-or (is_event e) (begins_zone e) there.1) ∙ is_read)

      asked : (used : ZoneName) → Contains (map (λ w. w.check) read.checks) (check.Zone used) → IsWanted used
      asked used k =
          let was = was-mapped (λ (w : LineCheck). w.check) read.checks (check.Zone used) k in
          subst (Contains (map (λ w. w.check) checks)) was.2
          (mapped (λ (w : LineCheck). w.check) checks was.0
          (flattened checks_on items e was.0 (in-contains items e i) (subst (λ ws. Contains ws was.0) (sym checks-there) was.1)))

      zone-alike : (used : ZoneName) → Contains (map (λ w. w.check) read.checks) (check.Zone used) → IsAlike files some_zones all_zones some wanted used
      zone-alike used k =
          let zone = named-zone used e among (event-names ls h e there.0 there.1 read is_read used k) in
          (zone, λ none. same used (asked used k) none (sym zone ∙ none))

      instant-alike : (t : Instant) → IsInstantAsked read.checks t → InstantAlike files some_zones all_zones some wanted t
      instant-alike (instant.Utc local) a = tt
      instant-alike (instant.Zoned local used) a = zone-alike used a

      check-alike : (c : DeferredCheck) → Contains (map (λ w. w.check) read.checks) c → IsAsked read.checks c → Alike c
      check-alike check.End k a = tt
      check-alike (check.Zone used) k a = zone-alike used k
      check-alike (check.Ends start end) k a = (instant-alike start a.0, instant-alike end a.1)

      each-alike : (w : LineCheck) → Contains read.checks w → Alike w.check
      each-alike w k =
          check-alike w.check (mapped (λ (w : LineCheck). w.check) read.checks w k)
          (All-contains (λ w. IsAsked read.checks w.check) read.checks w (event-asks ls h e there.0 there.1 read is_read) k)

    pub checks-alike : All (λ w. Alike w.check) checks
    checks-alike = all-by (λ (w : LineCheck). Alike w.check) checks each
      where
        by_read : (e : Placed) → IsIn e items → (w : LineCheck) → (r : Result ParsedFileSeen Fault) → (component_seen ls e).read ≡ r →
            Contains (parsed_in r).checks w → Alike w.check
        by_read e i w (Ok read) is_read k = each-alike e i read is_read w k
        by_read e i w (Err fault) is_read k = absurd (no-element w k)

        each : (w : LineCheck) → Contains checks w → Alike w.check
        each w k =
            let was = was-flattened checks_on items w k in
            let i = contains-in items was.0 was.1 in
            let event = (in-filter is_event ls was.0 (in-filter (is_event_of part) (all_events ls) was.0 i).0).1 in
            by_read was.0 i w (component_seen ls was.0).read refl
            (subst (λ r. Contains (parsed_in r).checks w) (read-is ls was.0 (left-or (is_event was.0) (begins_zone was.0) event)) was.2)
