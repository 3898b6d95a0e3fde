-- The first faults of parts in the second round, and what is gathered of the accepted ones.
use Rattle.std.proofs.Common.{◌≡◌, ℕ, ◌<◌, Bool, true, false, ◌&&◌, ◌||◌, ◌==◌, List, [], ◌∷◌, ◌++◌, length, get_or, map, refl, sym, ap, ◌∙◌, arith}
use Rattle.std.proofs.Common.{cond}
use Rattle.std.proofs.Common.{Option, Some, None, add-one, append_assoc, subst, take, ◌+◌}
use Rattle.std.proofs.Math.Seq.{take-suc}
use Rattle.std.specs.Prelude.{is_none, slice_get}
use Rattle.std.specs.List.{All, Contains, cons_option, flat_map}
use Rattle.std.specs.Option.{option_or}
use Rattle.std.proofs.lemmas.Grind.{flat_map-append}
use Rattle.std.proofs.lemmas.List.{append-nil, map-append}
use Rattle.std.proofs.lemmas.List.Elements.{All-append, All-head, All-nil, All-tail, All-weaker, Contains-append_left, Contains-append_right}
use Rattle.std.proofs.lemmas.List.Elements.{filter-append, filter_agree, filter_map-append}
use Rattle.std.proofs.lemmas.Option.{slice_get_within, slice_get-get_or}
use Rattle.ics_components.specs.declared.deferred_check.DeferredCheck.{DeferredCheck}
use Rattle.ics_components.specs.declared.fault.Fault.{Fault}
use Rattle.ics_components.specs.declared.parsed_file.CalendarEvent.{CalendarEvent}
use Rattle.ics_components.specs.declared.parsed_file.CalendarZone.{CalendarZone}
use Rattle.ics_components.specs.declared.parsed_file.LineCheck.{LineCheck}
use Rattle.ics_components.specs.ParsedFiles.{IsSoundCheck, IsSoundParsed}
use Rattle.ics_components.specs.Sound.{IsSoundEvent, IsSoundZone}
use Rattle.ics_components.proofs.Sound.{event-weaker}
use Rattle.ics_components.specs.declared.deferred_check.ZoneName.{ZoneName}
use Rattle.ics_calendar.specs.DeferredChecks.{KnownZones, unknown_in}
use Rattle.ics_calendar.specs.Inner.UnknownNames.{name_in}
use Rattle.ics_calendar.specs.Settled.{all_unknown, first_judged}
use Rattle.ics_calendar.specs.Inner.SoundParts.{accepted_of, checks_of, fault_there, faults_at, gathered_of, is_no_fault, is_sound, later_faults, later_named}
use Rattle.ics_calendar.specs.Inner.SoundParts.{later_of}
use Rattle.ics_calendar.specs.GivenFiles.{GivenFiles}
use Rattle.ics_calendar.specs.Parts.{Given, in_order}
use Rattle.ics_calendar.specs.Inner.SoundParts.{PartsSeen, given_by_parts, listed, named_at, of_parts, said_with, zones_for}
use Rattle.ics_calendar.specs.Inner.SoundParts.{SoundEventSeen}

-- the elements up to a place, and those up to the next
pub next-take : {X : Type 0} (xs : List X) (i : ℕ) (x : X) → x ≡ get_or xs i x → i < length xs → take (i + 1) xs ≡ take i xs ++ x ∷ []
next-take xs i x e less = ap (λ n. take n xs) (add-one i) ∙ take-suc xs i x less ∙ ap (λ y. take i xs ++ y ∷ []) (sym e)

-- a time zone more that is named
pub or-more : (had any now : Bool) → cond now true (had || any) ≡ (had || (any || (now || false)))
or-more had any now = grind arith

-- THE UNKNOWN NAMES with a check more, and with an event more.
module _ (index : ZoneName → Option ℕ) where
  name-alone : (o : Option (List ℕ)) → cons_option o [] ≡ name_in o
  name-alone None = refl
  name-alone (Some name) = refl

  pub unknown-more : (names : List (List ℕ)) (ws : List LineCheck) (i : ℕ) (w : LineCheck) → w ≡ get_or ws i w → i < length ws →
      (names ++ all_unknown index (take i ws)) ++ name_in (unknown_in index w.check) ≡ names ++ all_unknown index (take (i + 1) ws)
  unknown-more names ws i w e less =
      append_assoc names (all_unknown index (take i ws)) (name_in (unknown_in index w.check))
      ∙ ap (λ (ns : List (List ℕ)). names ++ ns)
      (ap (λ (ns : List (List ℕ)). all_unknown index (take i ws) ++ ns) (sym (name-alone (unknown_in index w.check)))
      ∙ sym (filter_map-append (λ (w : LineCheck). unknown_in index w.check) (take i ws) (w ∷ [])) ∙ ap (all_unknown index) (sym (next-take ws i w e less)))

  unknown-join : (es : List SoundEventSeen) (sound : SoundEventSeen) (t : Bool) →
      all_unknown index (checks_of (es ++ cond t (sound ∷ []) [])) ≡ all_unknown index (checks_of es) ++ cond t (all_unknown index sound.read.checks) []
  unknown-join es sound true = simp (flat_map-append, append-nil, filter_map-append)
  unknown-join es sound false = simp append-nil

  pub unknown-push : (chosen : ℕ → Bool) (es : List SoundEventSeen) (i : ℕ) (sound : SoundEventSeen) → sound ≡ get_or es i sound → i < length es →
      all_unknown index (checks_of (of_parts chosen (take (i + 1) es)))
      ≡ all_unknown index (checks_of (of_parts chosen (take i es))) ++ cond (chosen sound.part) (all_unknown index sound.read.checks) []
  unknown-push chosen es i sound e less =
      ap (λ es. all_unknown index (checks_of (of_parts chosen es))) (next-take es i sound e less)
      ∙ ap (λ es. all_unknown index (checks_of es)) (filter-append (λ (sound : SoundEventSeen). chosen sound.part) (take i es) (sound ∷ []))
      ∙ unknown-join (of_parts chosen (take i es)) sound (chosen sound.part)

-- THE FIRST FAULT of checks one after the other, and of a part with an event more.
module _ (known : KnownZones) where
  pub judged-append : (ws vs : List LineCheck) → first_judged known (ws ++ vs) ≡ option_or (first_judged known ws) (first_judged known vs)
  judged-append [] vs = refl
  judged-append (w ∷ ws) vs = grind (arith, judged-append ws vs)

  abbrev with_more : Option Fault → Bool → SoundEventSeen → Option Fault
  with_more first t sound = cond t (option_or first (first_judged known sound.read.checks)) first

  push-as : (es : List SoundEventSeen) (sound : SoundEventSeen) (t : Bool) →
      first_judged known (checks_of (es ++ cond t (sound ∷ []) [])) ≡ with_more (first_judged known (checks_of es)) t sound
  push-as es sound true = simp (flat_map-append, append-nil, judged-append)
  push-as es sound false = simp append-nil

  pub later-push : (events : List SoundEventSeen) (sound : SoundEventSeen) (part : ℕ) →
      later_of known (events ++ sound ∷ []) part
      ≡ cond (sound.part == part) (option_or (later_of known events part) (first_judged known sound.read.checks)) (later_of known events part)
  later-push events sound part =
      ap (λ es. first_judged known (checks_of es)) (filter-append (λ other. other.part == part) events (sound ∷ []))
      ∙ push-as (of_parts (λ other. other == part) events) sound (sound.part == part)

  pub later-more : (events : List SoundEventSeen) (i : ℕ) (sound : SoundEventSeen) (part : ℕ) → sound ≡ get_or events i sound → i < length events →
      later_of known (take (i + 1) events) part
      ≡ cond (sound.part == part) (option_or (later_of known (take i events) part) (first_judged known sound.read.checks))
      (later_of known (take i events) part)
  later-more events i sound part e less = ap (λ es. later_of known es part) (next-take events i sound e less) ∙ later-push (take i events) sound part

-- BY A LIST of these faults: which events are accepted, and which faults are named.
module _ (known : KnownZones) (faults later : List (Option Fault)) (events : List SoundEventSeen) (count : length later ≡ length faults)
    (each : (part : ℕ) → part < length faults → get_or later part None ≡ later_of known events part) where
  within : (part : ℕ) (o : Option (Option Fault)) → slice_get faults part ≡ o → is_no_fault o ≡ true → part < length faults
  within part None e t = cc
  within part (Some fault) e t = slice_get_within faults part fault e

  later-at : (part : ℕ) → is_sound faults part ≡ true → slice_get later part ≡ Some (later_of known events part)
  later-at part t =
      let less = within part (slice_get faults part) refl t in
      slice_get-get_or later part None (rw count less) ∙ ap (λ (o : Option Fault). Some o) (each part less)

  no-fault : (o : Option Fault) → is_no_fault (Some o) ≡ is_none o
  no-fault None = refl
  no-fault (Some fault) = refl

  both-sound : (part : ℕ) → (is_sound faults part && is_sound later part) ≡ (is_sound faults part && is_none (later_of known events part))
  both-sound part = by_test (is_sound faults part) refl
    where
      by_test : (t : Bool) → is_sound faults part ≡ t → (t && is_sound later part) ≡ (t && is_none (later_of known events part))
      by_test true e = ap is_no_fault (later-at part e) ∙ no-fault (later_of known events part)
      by_test false e = refl

  pub accepted-same : of_parts (λ part. is_sound faults part && is_sound later part) events ≡ accepted_of known faults events
  accepted-same =
      filter_agree (λ sound. is_sound faults sound.part && is_sound later sound.part)
      (λ sound. is_sound faults sound.part && is_none (later_of known events sound.part)) (λ sound. both-sound sound.part) events

  named-same : (part : ℕ) → named_at faults later part ≡ later_named known faults events part
  named-same part = by_test (is_sound faults part) refl
    where
      by_test : (t : Bool) → is_sound faults part ≡ t →
          cond t (fault_there (slice_get later part)) None ≡ cond t (later_of known events part) None
      by_test true e = ap fault_there (later-at part e)
      by_test false e = refl

  all-named : (some : List SoundEventSeen) →
      flat_map (faults_at faults later) some ≡ flat_map (λ sound. listed (later_named known faults events sound.part)) some
  all-named [] = refl
  all-named (sound ∷ some) = λ i. listed (named-same sound.part i) ++ all-named some i

  pub listed-same : flat_map (faults_at faults later) events ≡ later_faults known faults events
  listed-same = all-named events

-- WHAT IS GATHERED of sound events and time zones is sound.
abbrev are_sound : SoundEventSeen → Type 0
are_sound sound = IsSoundParsed sound.read

checks-sound : (events : List SoundEventSeen) → All are_sound events → All (λ w. IsSoundCheck w.check) (checks_of events)
checks-sound [] h = All-nil (λ w. IsSoundCheck w.check)
checks-sound (sound ∷ events) h =
    All-append (λ w. IsSoundCheck w.check) sound.read.checks (checks_of events) (All-head are_sound sound events h).sound
    (checks-sound events (All-tail are_sound sound events h))

abbrev all_checks : List SoundEventSeen → List DeferredCheck
all_checks events = map (λ w. w.check) (checks_of events)

abbrev IsSoundBy : (DeferredCheck → Type 0) → CalendarEvent → Type 0
IsSoundBy W event = IsSoundEvent W event.calendar event.fields

events-sound : (W : DeferredCheck → Type 0) (events : List SoundEventSeen) → ((check : DeferredCheck) → Contains (all_checks events) check → W check) →
    All are_sound events → All (IsSoundBy W) (flat_map (λ sound. sound.read.events) events)
events-sound W [] into h = All-nil (IsSoundBy W)
events-sound W (sound ∷ events) into h =
    let own : List DeferredCheck = map (λ w. w.check) sound.read.checks in
    let parts : all_checks (sound ∷ events) ≡ own ++ all_checks events = map-append (λ w. w.check) sound.read.checks (checks_of events) in
    let from : (check : DeferredCheck) → Contains (own ++ all_checks events) check → W check =
    λ check k. into check (subst (λ checks. Contains checks check) (sym parts) k) in
    All-append (IsSoundBy W) sound.read.events (flat_map (λ sound. sound.read.events) events)
    (All-weaker (IsSoundBy (Contains own)) (IsSoundBy W)
    (λ event s. event-weaker (Contains own) W (λ check k. from check (Contains-append_left own (all_checks events) check k)) _ _ s) sound.read.events
    (All-head are_sound sound events h).events)
    (events-sound W events (λ check k. from check (Contains-append_right own (all_checks events) check k)) (All-tail are_sound sound events h))

pub gathered-sound : (events : List SoundEventSeen) (zones : List CalendarZone) → All are_sound events → All (λ z. IsSoundZone z.observances) zones →
    IsSoundParsed (gathered_of events zones)
gathered-sound events zones h z = record {
  zones = z;
  events = events-sound (Contains (all_checks events)) events (λ check k. k) h;
  sound = checks-sound events h;
}

-- WHAT THE PARTS GIVE, by what is made of them one after the other.
pub record IsSettled (parts : PartsSeen) (known : KnownZones) (files : GivenFiles) (fault : Fault) (given : Given) : Type 0 where
  pub later : List (Option Fault)
  pub count : length later ≡ length parts.faults
  pub each : (part : ℕ) → part < length parts.faults → get_or later part None ≡ later_of known parts.events part
  pub accepted : List SoundEventSeen
  pub accepts : accepted ≡ of_parts (λ part. is_sound parts.faults part && is_sound later part) parts.events
  pub zones : List CalendarZone
  pub named : zones ≡ zones_for accepted parts.zones
  pub said : given.said ≡ said_with (gathered_of accepted zones) files
  pub faults : given.faults
      ≡ in_order (fault ∷ (listed parts.rest ++ (flat_map listed parts.faults ++ flat_map (faults_at parts.faults later) parts.events)))

pub settled : {parts : PartsSeen} {known : KnownZones} {files : GivenFiles} {fault : Fault} {given : Given} →
    IsSettled parts known files fault given → given ≡ given_by_parts known parts files fault
settled {parts} {known} {files} {fault} s =
    let accepts : s.accepted ≡ accepted_of known parts.faults parts.events =
    s.accepts ∙ accepted-same known parts.faults s.later parts.events s.count s.each in
    let named : s.zones ≡ zones_for (accepted_of known parts.faults parts.events) parts.zones = s.named ∙ ap (λ es. zones_for es parts.zones) accepts in
    let said = s.said ∙ (λ i. said_with (gathered_of (accepts i) (named i)) files) in
    let faults = s.faults
    ∙ ap (λ (later : List Fault). in_order (fault ∷ (listed parts.rest ++ (flat_map listed parts.faults ++ later))))
    (listed-same known parts.faults s.later parts.events s.count s.each) in
    λ i. record { said = said i; faults = faults i }
