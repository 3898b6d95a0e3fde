-- First faults by maps, and numbers of parts by UIDs, one entry at a time.
use Rattle.std.proofs.Common.{◌≡◌, ℕ, ◌+◌, ◌<◌, Bool, true, false, ◌||◌, ◌==◌, List, [], ◌∷◌, ◌++◌, length, get_or, take, refl, sym, ap, ◌∙◌, arith, cond}
use Rattle.std.proofs.Common.{Option, Some, None, Result, Ok, Err, IfOk, add-one, map, suc}
use Rattle.std.proofs.Math.Seq.{take-suc}
use Rattle.std.proofs.lemmas.Bool.Decides.{nat_tests}
use Rattle.std.specs.Ordering.{is_eq, nat_cmp}
use Rattle.std.specs.Prelude.{unwrap_or}
use Rattle.std.specs.Option.{option_or}
use Rattle.ics_components.specs.declared.deferred_check.ZoneName.{ZoneName}
use Rattle.ics_components.specs.declared.fault.Fault.{Fault}
use Rattle.ics_components.specs.Parted.{PartedComponentSeen, PartedFileSeen}
use Rattle.ics_calendar.specs.Inner.SharedFaults.{AreShared, needed_by}
use Rattle.ics_calendar.specs.Inner.PartsRead.{fault_needed, fault_read, sound_zones, zones_in}
use Rattle.ics_calendar.specs.Inner.SoundParts.{SoundEventSeen}
use Rattle.ics_calendar.specs.declared.shared_faults.SharedFaults.{SharedFaults}
use Rattle.ics_components.specs.declared.parsed_file.CalendarZone.{CalendarZone}
use Rattle.ics_components.specs.ParsedFileSeen.{ParsedFileSeen}
use Rattle.ics_components.specs.ParsedFiles.{IsSoundParsed}
use Rattle.ics_components.specs.Sound.{IsSoundZone}
use Rattle.std.specs.List.{All}
use Rattle.std.proofs.lemmas.List.Elements.{All-append, All-cons, All-head, All-nil, All-tail}
use Rattle.ics_calendar.specs.Inner.Labels.{AreNumbered}
use Rattle.ics_calendar.specs.Inner.PartsRead.{Labelled, Numbered, calendar_fault, fault_under, is_key, keys_of, least_at, number_of, numbered_with, place_from}
use Rattle.ics_calendar.specs.Inner.PartsRead.{sound_in, with_event, with_key, zone_fault}
use Rattle.ics_calendar.specs.declared.summed_uid.SummedUid.{SummedUid}
use Rattle.ics_calendar.specs.Inner.SummedUids.{number_by, place_of}
use Rattle.ics_components.specs.PartFaults.{earlier}
use Rattle.std.specs.BTreeMap.{BTreeMap}
use Rattle.std.specs.List.{fold}
use Rattle.std.specs.Str.{bytes_eq}
use Rattle.std.proofs.lemmas.List.{length-append, length-set}
use Rattle.ics_calendar.proofs.FilesGiven.{or-none}
use Rattle.ics_calendar.proofs.PartsGiven.{next-take}

or-assoc : {X : Type 0} (a b c : Option X) → option_or a (option_or b c) ≡ option_or (option_or a b) c
or-assoc a b c = grind arith

-- what stands under one of several names, and one name more
pub or-cond : {X : Type 0} (o : Option X) (s t : Bool) (x : X) →
    option_or (option_or o (cond s (Some x) None)) (cond t (Some x) None) ≡ option_or o (cond (s || (t || false)) (Some x) None)
or-cond o s t x = grind arith

pub calendar-more : (cs : List (ℕ × Fault)) (c : ℕ × Fault) (k : ℕ) →
    calendar_fault (cs ++ c ∷ []) k ≡ option_or (calendar_fault cs k) (cond (c.0 == k) (Some c.1) None)
calendar-more [] c k = refl
calendar-more (d ∷ ds) c k = by_test (d.0 == k) (calendar-more ds c k)
  where
    by_test : (t : Bool) → calendar_fault (ds ++ c ∷ []) k ≡ option_or (calendar_fault ds k) (cond (c.0 == k) (Some c.1) None) →
        cond t (Some d.1) (calendar_fault (ds ++ c ∷ []) k) ≡ option_or (cond t (Some d.1) (calendar_fault ds k)) (cond (c.0 == k) (Some c.1) None)
    by_test true again = refl
    by_test false again = again

pub calendar-next : (cs : List (ℕ × Fault)) (i : ℕ) (d : ℕ × Fault) (k : ℕ) → i < length cs →
    calendar_fault (take (i + 1) cs) k ≡ option_or (calendar_fault (take i cs) k) (cond ((get_or cs i d).0 == k) (Some (get_or cs i d).1) None)
calendar-next cs i d k less =
    ap (λ cs. calendar_fault cs k) (ap (λ n. take n cs) (add-one i) ∙ take-suc cs i d less) ∙ calendar-more (take i cs) (get_or cs i d) k

pub numbers-tie : (a b : ℕ) → is_eq (nat_cmp a b) ≡ (a == b)
numbers-tie a b = grind (arith, nat_tests)

zone-more : (zs : List PartedComponentSeen) (z : PartedComponentSeen) (used : ZoneName) →
    zone_fault (zs ++ z ∷ []) used ≡ option_or (zone_fault zs used) (fault_under z used)
zone-more [] z used = or-none (fault_under z used)
zone-more (d ∷ ds) z used =
    ap (option_or (fault_under d used)) (zone-more ds z used) ∙ or-assoc (fault_under d used) (zone_fault ds used) (fault_under z used)

pub zone-next : (zs : List PartedComponentSeen) (i : ℕ) (z : PartedComponentSeen) (used : ZoneName) → z ≡ get_or zs i z → i < length zs →
    zone_fault (take (i + 1) zs) used ≡ option_or (zone_fault (take i zs) used) (fault_under z used)
zone-next zs i z used e less = ap (λ zs. zone_fault zs used) (next-take zs i z e less) ∙ zone-more (take i zs) z used

pub none-both : (t : Bool) (none : Option Fault) → cond t none none ≡ none
none-both true none = refl
none-both false none = refl

-- THE PLACE of a UID with a key more.
abbrev Keys : Type 0
Keys = List (Option (List ℕ))

place-from-more : (k : ℕ) (keys : Keys) (key : Option (List ℕ)) (uid : List ℕ) →
    place_from k (keys ++ key ∷ []) uid ≡ option_or (place_from k keys uid) (cond (is_key uid key) (Some (k + length keys)) None)
place-from-more k [] key uid = ap (λ n. cond (is_key uid key) (Some n) None) (omega arith)
place-from-more k (d ∷ ds) key uid = by_test (is_key uid d) (place-from-more (k + 1) ds key uid)
  where
    later : ℕ → Option ℕ
    later n = cond (is_key uid key) (Some n) None

    by_test : (t : Bool) → place_from (k + 1) (ds ++ key ∷ []) uid ≡ option_or (place_from (k + 1) ds uid) (later ((k + 1) + length ds)) →
        cond t (Some k) (place_from (k + 1) (ds ++ key ∷ []) uid)
        ≡ option_or (cond t (Some k) (place_from (k + 1) ds uid)) (later (k + length (d ∷ ds)))
    by_test true again = refl
    by_test false again = again ∙ ap (λ n. option_or (place_from (k + 1) ds uid) (later n)) (omega arith)

pub place-more : (keys : Keys) (key : Option (List ℕ)) (uid : List ℕ) →
    place_from 0 (keys ++ key ∷ []) uid ≡ option_or (place_from 0 keys uid) (cond (is_key uid key) (Some (length keys)) None)
place-more keys key uid =
    place-from-more 0 keys key uid ∙ ap (λ n. option_or (place_from 0 keys uid) (cond (is_key uid key) (Some n) None)) (omega arith)

pub or-nothing : {X : Type 0} (o : Option X) → o ≡ option_or o None
or-nothing None = refl
or-nothing (Some x) = refl

pub long-more : (fault : Option Fault) (faults : List (Option Fault)) (keys : Keys) (key : Option (List ℕ)) (n : ℕ) → length faults ≡ length keys →
    length (least_at fault (faults ++ None ∷ []) n) ≡ length (keys ++ key ∷ [])
long-more fault faults keys key n e =
    length-set (faults ++ None ∷ []) n (earlier (get_or (faults ++ None ∷ []) n None) fault) ∙ length-append faults (None ∷ []) ∙ ap (λ n. n + 1) e
    ∙ sym (length-append keys (key ∷ []))

-- WHAT IS KEPT with a key more.
pub uid-more : (fault : Option Fault) (had : Numbered) (by_uid now : BTreeMap SummedUid ℕ) (faults : List (Option Fault)) (uid : List ℕ) →
    AreNumbered had by_uid faults →
    ((other : List ℕ) → place_of now other
    ≡ option_or (place_of by_uid other) (cond (bytes_eq other uid) (Some (length faults)) None)) →
    AreNumbered (with_key fault had (Some uid)) now (least_at fault (faults ++ None ∷ []) (number_by by_uid (length faults) uid))
    × (number_by by_uid (length faults) uid ≡ (with_key fault had (Some uid)).part)
uid-more fault had by_uid now faults uid are put =
    let place : length faults ≡ length had.keys = ap (λ fs. length fs) are.first ∙ are.long in
    let number : number_by by_uid (length faults) uid ≡ number_of had.keys (Some uid) = λ j. unwrap_or (are.places uid j) (place j) in (
      record {
        places = λ other. put other ∙ (λ j. option_or (are.places other j) (cond (bytes_eq other uid) (Some (place j)) None))
            ∙ sym (place-more had.keys (Some uid) other);
        first = λ j. least_at fault (are.first j ++ None ∷ []) (number j);
        long = long-more fault had.faults had.keys (Some uid) (number_of had.keys (Some uid)) are.long;
      },
      number,
    )

pub none-more : (fault : Option Fault) (had : Numbered) (by_uid : BTreeMap SummedUid ℕ) (faults : List (Option Fault)) → AreNumbered had by_uid faults →
    AreNumbered (with_key fault had None) by_uid (least_at fault (faults ++ None ∷ []) (length faults))
    × (length faults ≡ (with_key fault had None).part)
none-more fault had by_uid faults are =
    let place : length faults ≡ length had.keys = ap (λ fs. length fs) are.first ∙ are.long in (
      record {
        places = λ other. are.places other ∙ or-nothing (place_from 0 had.keys other) ∙ sym (place-more had.keys None other);
        first = λ j. least_at fault (are.first j ++ None ∷ []) (place j);
        long = long-more fault had.faults had.keys None (length had.keys) are.long;
      },
      place,
    )

-- the keys of an event without a UID, and with some
pub no-keys : (uids : List (List ℕ)) → (length uids == 0) ≡ true → keys_of uids ≡ None ∷ []
no-keys [] e = refl
no-keys (uid ∷ uids) e = let none : suc (length uids) ≡ 0 = grind (arith, nat_tests, e) in absurd (omega (arith, none))

pub some-keys : (uids : List (List ℕ)) → (length uids == 0) ≡ false → keys_of uids ≡ map (λ uid. Some uid) uids
some-keys [] e = cc
some-keys (uid ∷ uids) e = refl

-- what is kept before an event more
pub begun : (had : Numbered) (by_uid : BTreeMap SummedUid ℕ) (faults : List (Option Fault)) → AreNumbered had by_uid faults →
    AreNumbered (record had { part = 0 }) by_uid faults
begun had by_uid faults are = record { places = are.places; first = are.first; long = are.long }

-- WHAT AN EVENT NEEDS, by maps and by lists.
pub needed-same : (parted : PartedFileSeen) (shared : SharedFaults) → AreShared parted.calendars parted.zones shared → (event : PartedComponentSeen) →
    needed_by shared event ≡ fault_needed parted event
needed-same parted shared are event =
    λ j. earlier (fault_read event.read)
    (fold (λ first name. earlier first (are.of_zones (record { calendar = event.calendar; name = name }) j)) (are.of_calendars event.calendar j) event.zones)

-- WHAT IS KEPT of sound components is sound.
abbrev IsSoundRead : PartedComponentSeen → Type 0
IsSoundRead component = IfOk component.read IsSoundParsed

abbrev IsSoundKept : SoundEventSeen → Type 0
IsSoundKept sound = IsSoundParsed sound.read

zones-of : (read : Result ParsedFileSeen Fault) → IfOk read IsSoundParsed → All (λ z. IsSoundZone z.observances) (zones_in read)
zones-of (Ok read) h = h.zones
zones-of (Err fault) h = All-nil (λ (z : CalendarZone). IsSoundZone z.observances)

pub zones-sound : (zones : List PartedComponentSeen) → All IsSoundRead zones → All (λ z. IsSoundZone z.observances) (sound_zones zones)
zones-sound [] h = All-nil (λ (z : CalendarZone). IsSoundZone z.observances)
zones-sound (zone ∷ zones) h =
    All-append (λ z. IsSoundZone z.observances) (zones_in zone.read) (sound_zones zones) (zones-of zone.read (All-head IsSoundRead zone zones h))
    (zones-sound zones (All-tail IsSoundRead zone zones h))

pub event-sound : (part : ℕ) (event : PartedComponentSeen) (read : Result ParsedFileSeen Fault) → IfOk read IsSoundParsed →
    All IsSoundKept (sound_in part event read)
event-sound part event (Ok read) h =
    All-cons IsSoundKept (record { part = part; calendar = event.calendar; zones = event.zones; read = read }) [] h (All-nil IsSoundKept)
event-sound part event (Err fault) h = All-nil IsSoundKept

pub events-sound : (needed : PartedComponentSeen → Option Fault) (had : Labelled) (events : List PartedComponentSeen) → All IsSoundKept had.events →
    All IsSoundRead events → All IsSoundKept (fold (with_event needed) had events).events
events-sound needed had [] k h = k
events-sound needed had (event ∷ events) k h =
    events-sound needed (with_event needed had event) events
    (All-append IsSoundKept had.events (sound_in (numbered_with (needed event) had.numbered event.uids).part event event.read) k
    (event-sound (numbered_with (needed event) had.numbered event.uids).part event event.read (All-head IsSoundRead event events h)))
    (All-tail IsSoundRead event events h)
