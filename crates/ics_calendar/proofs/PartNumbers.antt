-- Each part of a file has a number, at which its first fault stands, and each number that is used is that of a part.
use Rattle.std.proofs.Common.{◌≡◌, ◌⊎◌, inl, inr, ℕ, Bool, true, false, ◌||◌, List, [], ◌∷◌, ◌++◌, length, get_or, map, filter, refl, sym, ap, ◌∙◌, arith}
use Rattle.std.proofs.Common.{Option, Some, None, Result, Ok, Err, cond, subst, ⊎_elim}
use Rattle.std.specs.Prelude.{option_map, slice_get}
use Rattle.std.specs.Cmp.Lexicographic.{bytes_decides}
use Rattle.std.specs.List.{Contains, flat_map, fold, list_any}
use Rattle.std.specs.Option.{option_or}
use Rattle.std.specs.Str.{bytes_eq}
use Rattle.std.proofs.lemmas.List.Elements.{Contains-append_left, Contains-append_right}
use Rattle.std.proofs.lemmas.Option.{slice_get-get_or}
use Rattle.ics_components.specs.declared.fault.Fault.{Fault}
use Rattle.ics_components.specs.EventLines.{all_events, has_no_uid, has_uid, is_none_of, uids_of}
use Rattle.ics_components.specs.ParsedFileSeen.{ParsedFileSeen}
use Rattle.ics_components.specs.Parted.{PartedComponentSeen, component_seen}
use Rattle.ics_components.specs.PlacedLines.{Placed}
use Rattle.ics_calendar.specs.Parts.{Part, parts_of}
use Rattle.ics_calendar.specs.Inner.PartsRead.{Labelled, Numbered, is_key, keys_of, labelled, nothing_labelled, place_from, sound_in, with_event, with_key}
use Rattle.ics_calendar.specs.Inner.SoundParts.{SoundEventSeen}
use Rattle.ics_calendar.specs.Wanted.{each_once}
use Rattle.ics_calendar.proofs.Numbers.{Are_long, Keys, at, events-at, events-long, first_of, has, key-at, noted, uid-first}
use Rattle.ics_calendar.proofs.NumbersBack.{IsAlone, IsLone, first-back, keys-alone, now-alone, place-now}
use Rattle.ics_calendar.proofs.OneUid.{any-of, was-flattened, was-mapped}
use Rattle.ics_calendar.proofs.PartLaws.{flattened, here, is-here, kept, mapped, no-element, once, there}
use Rattle.ics_calendar.proofs.Shared.{place-more}

-- ELEMENTS of lists.
module _ {X : Type 0} where
  some-of : (p : X → Bool) (xs : List X) → list_any p xs ≡ true → (x : X) × Contains xs x × (p x ≡ true)
  some-of p [] e = cc
  some-of p (x ∷ xs) e = by_test (p x) refl (some-of p xs) e
    where
      by_test : (t : Bool) → p x ≡ t → (list_any p xs ≡ true → (y : X) × Contains xs y × (p y ≡ true)) → (t || list_any p xs) ≡ true →
          (y : X) × Contains (x ∷ xs) y × (p y ≡ true)
      by_test true is again e = (x, here x xs, is)
      by_test false is again e = let more = again e in (more.0, there x xs more.0 more.1, more.2)

module _ {X Y : Type 0} where
  pub filter-mapped : (f : X → Y) (p : Y → Bool) (xs : List X) → filter p (map f xs) ≡ map f (filter (λ x. p (f x)) xs)
  filter-mapped f p [] = refl
  filter-mapped f p (x ∷ xs) = by_test (p (f x)) (filter-mapped f p xs)
    where
      by_test : (t : Bool) → filter p (map f xs) ≡ map f (filter (λ x. p (f x)) xs) →
          cond t (f x ∷ filter p (map f xs)) (filter p (map f xs)) ≡ map f (cond t (x ∷ filter (λ x. p (f x)) xs) (filter (λ x. p (f x)) xs))
      by_test true again = ap (λ (ys : List Y). f x ∷ ys) again
      by_test false again = again

pub has-none : (uids : List (List ℕ)) → is_none_of uids ≡ true → uids ≡ []
has-none [] e = refl
has-none (uid ∷ uids) e = cc

uid-in : (uids : List (List ℕ)) (uid : List ℕ) → list_any (bytes_eq uid) uids ≡ true → Contains uids uid
uid-in uids uid e =
    let some = some-of (bytes_eq uid) uids e in subst (Contains uids) (sym ((bytes_decides uid some.0).0 some.2)) some.1

pub itself-in : (uids : List (List ℕ)) (uid : List ℕ) → Contains uids uid → list_any (bytes_eq uid) uids ≡ true
itself-in uids uid k = any-of (bytes_eq uid) uids uid k ((bytes_decides uid uid).1 refl)

-- what stands at a number
pub at-place : (had : Numbered) (uid : List ℕ) (first : Option Fault) → Are_long had → at had uid ≡ Some first →
    (n : ℕ) × (place_from 0 had.keys uid ≡ Some n) × (slice_get had.faults n ≡ Some first)
at-place had uid first long e = by_place (place_from 0 had.keys uid) refl e
  where
    by_place : (o : Option ℕ) → place_from 0 had.keys uid ≡ o → option_map (λ n. get_or had.faults n None) o ≡ Some first →
        (n : ℕ) × (place_from 0 had.keys uid ≡ Some n) × (slice_get had.faults n ≡ Some first)
    by_place None is e = cc
    by_place (Some n) is e =
        let less = (key-at had.keys uid n is).0 in (n, is, slice_get-get_or had.faults n None (omega (arith, less, long)) ∙ e)

pub alone-at : (fault : Option Fault) (had : Numbered) (n : ℕ) → Are_long had → IsAlone fault had n → slice_get had.faults n ≡ Some fault
alone-at fault had n long is =
    let less = is.within in slice_get-get_or had.faults n None (omega (arith, less, long)) ∙ ap (λ (o : Option Fault). Some o) is.first

-- A KEY KEEPS ITS PLACE with more of them.
place-kept : (keys : Keys) (key : Option (List ℕ)) (uid : List ℕ) (n : ℕ) → place_from 0 keys uid ≡ Some n → place_from 0 (keys ++ key ∷ []) uid ≡ Some n
place-kept keys key uid n e = place-more keys key uid ∙ ap (λ o. option_or o (cond (is_key uid key) (Some (length keys)) None)) e

keys-kept : (fault : Option Fault) (keys : Keys) (had : Numbered) (uid : List ℕ) (n : ℕ) → place_from 0 had.keys uid ≡ Some n →
    place_from 0 (fold (with_key fault) had keys).keys uid ≡ Some n
keys-kept fault [] had uid n e = e
keys-kept fault (key ∷ keys) had uid n e = keys-kept fault keys (with_key fault had key) uid n (place-kept had.keys key uid n e)

-- THE PART OF AN EVENT: the number of its last key.
abbrev pub IsPlaced : Option Fault → Numbered → List (List ℕ) → ℕ → Type 0
IsPlaced needed had uids n = ((uid : List ℕ) × Contains uids uid × (place_from 0 had.keys uid ≡ Some n)) ⊎ ((uids ≡ []) × IsAlone needed had n)

last-placed : (fault : Option Fault) (uids : List (List ℕ)) (had : Numbered) (uid : List ℕ) →
    let now : Numbered = fold (with_key fault) (with_key fault had (Some uid)) (map (λ uid. Some uid) uids) in
    (other : List ℕ) × Contains (uid ∷ uids) other × (place_from 0 now.keys other ≡ Some now.part)
last-placed fault [] had uid = (uid, here uid [], place-now had.keys uid)
last-placed fault (next ∷ uids) had uid =
    let last = last-placed fault uids (with_key fault had (Some uid)) next in (last.0, there uid (next ∷ uids) last.0 last.1, last.2)

pub own-placed : (fault : Option Fault) (uids : List (List ℕ)) (had : Numbered) → Are_long had →
    IsPlaced fault (fold (with_key fault) had (keys_of uids)) uids (fold (with_key fault) had (keys_of uids)).part
own-placed fault [] had long = inr (refl, now-alone fault had long)
own-placed fault (uid ∷ uids) had long = inl (last-placed fault uids had uid)

module _ (needed : PartedComponentSeen → Option Fault) where
  none-noted : (uid : List ℕ) (events : List PartedComponentSeen) → list_any (has uid) events ≡ false →
      fold (λ o event. noted (needed event) (has uid event) o) None events ≡ None
  none-noted uid [] e = refl
  none-noted uid (event ∷ events) e = by_test (has uid event) (none-noted uid events) e
    where
      by_test : (t : Bool) → (list_any (has uid) events ≡ false → fold (λ o event. noted (needed event) (has uid event) o) None events ≡ None) →
          (t || list_any (has uid) events) ≡ false → fold (λ o event. noted (needed event) (has uid event) o) (noted (needed event) t None) events ≡ None
      by_test true again e = cc
      by_test false again e = again e

  pub events-kept : (events : List PartedComponentSeen) (had : Labelled) (uid : List ℕ) (n : ℕ) → place_from 0 had.numbered.keys uid ≡ Some n →
      place_from 0 (fold (with_event needed) had events).numbered.keys uid ≡ Some n
  events-kept [] had uid n e = e
  events-kept (event ∷ events) had uid n e =
      events-kept events (with_event needed had event) uid n
      (keys-kept (needed event) (keys_of event.uids) (record had.numbered { part = 0 }) uid n e)

  still-placed : (event other : PartedComponentSeen) (had : Labelled) (n : ℕ) → IsPlaced (needed other) had.numbered other.uids n →
      IsPlaced (needed other) (with_event needed had event).numbered other.uids n
  still-placed event other had n (inl h) =
      inl (h.0, h.1, keys-kept (needed event) (keys_of event.uids) (record had.numbered { part = 0 }) h.0 n h.2)
  still-placed event other had n (inr h) =
      inr (
        h.0,
        keys-alone (needed other) (needed event) (keys_of event.uids) (record had.numbered { part = 0 }) n
            (record { within = h.1.within; key = h.1.key; first = h.1.first }),
      )

  pub at-end : (events : List PartedComponentSeen) (other : PartedComponentSeen) (had : Labelled) (n : ℕ) →
      IsPlaced (needed other) had.numbered other.uids n → IsPlaced (needed other) (fold (with_event needed) had events).numbered other.uids n
  at-end [] other had n h = h
  at-end (event ∷ events) other had n h = at-end events other (with_event needed had event) n (still-placed event other had n h)

  pub sound-is : (part : ℕ) (event : PartedComponentSeen) (read : Result ParsedFileSeen Fault) (sound : SoundEventSeen) →
      Contains (sound_in part event read) sound → sound.part ≡ part
  sound-is part event (Ok read) sound k =
      ap (λ (s : SoundEventSeen). s.part)
      (sym (is-here (record { part = part; calendar = event.calendar; zones = event.zones; read = read }) sound k))
  sound-is part event (Err fault) sound k = absurd (no-element sound k)

  -- EACH PART HAS A NUMBER, and each number that is used is that of a part.
  module _ (lines : List Placed) where
    abbrev pub events : List PartedComponentSeen
    events = map (component_seen lines) (all_events lines)

    abbrev pub numbered : Numbered
    numbered = (labelled needed events).numbered

    abbrev pub first_of_part : Part → Option Fault
    first_of_part part = first_of needed None (map (component_seen lines) part)

    abbrev pub of_uid : List ℕ → Part
    of_uid uid = filter (has_uid lines uid) (all_events lines)

    abbrev pub uids : List (List ℕ)
    uids = flat_map (uids_of lines) (all_events lines)

    abbrev pub lone : List Placed
    lone = filter (has_no_uid lines) (all_events lines)

    pub long : Are_long numbered
    long = events-long needed events nothing_labelled refl

    pub is-part : (uid : List ℕ) → Contains uids uid → Contains (parts_of lines) (of_uid uid)
    is-part uid k =
        Contains-append_left (map of_uid (each_once uids)) (map (λ event. event ∷ []) lone) (of_uid uid)
        (mapped of_uid (each_once uids) uid (once uids uid k))

    pub is-lone : (event : Placed) → Contains (all_events lines) event → uids_of lines event ≡ [] → Contains (parts_of lines) (event ∷ [])
    is-lone event k e =
        Contains-append_right (map of_uid (each_once uids)) (map (λ event. event ∷ []) lone) (event ∷ [])
        (mapped (λ event. event ∷ []) lone event (kept (has_no_uid lines) (all_events lines) event (ap is_none_of e) k))

    some-has : (uid : List ℕ) → Contains uids uid → list_any (has uid) events ≡ true
    some-has uid k =
        let was = was-flattened (uids_of lines) (all_events lines) uid k in
        any-of (has uid) events (component_seen lines was.0) (mapped (component_seen lines) (all_events lines) was.0 was.1)
        (itself-in (uids_of lines was.0) uid was.2)

    has-some : (uid : List ℕ) → list_any (has uid) events ≡ true → Contains uids uid
    has-some uid e =
        let some = some-of (has uid) events e in
        let was = was-mapped (component_seen lines) (all_events lines) some.0 some.1 in
        let own : list_any (bytes_eq uid) (uids_of lines was.0) ≡ true = ap (has uid) was.2 ∙ some.2 in
        flattened (uids_of lines) (all_events lines) was.0 uid was.1 (uid-in (uids_of lines was.0) uid own)

    pub uid-at : (uid : List ℕ) → Contains uids uid → at numbered uid ≡ Some (first_of_part (of_uid uid))
    uid-at uid k =
        uid-first needed events uid (some-has uid k)
        ∙ ap (λ es. Some (first_of needed None es)) (filter-mapped (component_seen lines) (has uid) (all_events lines))

    pub place-has : (uid : List ℕ) (n : ℕ) → place_from 0 numbered.keys uid ≡ Some n → Contains uids uid
    place-has uid n e = has-some uid (by_test (list_any (has uid) events) refl)
      where
        by_test : (t : Bool) → list_any (has uid) events ≡ t → list_any (has uid) events ≡ true
        by_test true is = is
        by_test false is =
            let both : Some (get_or numbered.faults n None) ≡ None =
            sym (ap (option_map (λ n. get_or numbered.faults n None)) e) ∙ events-at needed events nothing_labelled uid refl ∙ none-noted uid events is in
            cc

    abbrev pub HasNumber : Part → ℕ → Type 0
    HasNumber part n = slice_get numbered.faults n ≡ Some (first_of_part part)

    pub of-place : (uid : List ℕ) (n : ℕ) → place_from 0 numbered.keys uid ≡ Some n → HasNumber (of_uid uid) n
    of-place uid n e =
        let stands = at-place numbered uid (first_of_part (of_uid uid)) long (uid-at uid (place-has uid n e)) in
        let both : Some stands.0 ≡ Some n = sym stands.1 ∙ e in
        let same : stands.0 ≡ n = cc in
        subst (HasNumber (of_uid uid)) same stands.2

    pub back-number : (n : ℕ) (fault : Fault) → get_or numbered.faults n None ≡ Some fault →
        (part : Part) × Contains (parts_of lines) part × (first_of_part part ≡ Some fault)
    back-number n fault e = ⊎_elim by-uid by-lone (first-back needed events n fault e)
      where
        by-uid : ((uid : List ℕ) × (place_from 0 numbered.keys uid ≡ Some n)) → (part : Part) × Contains (parts_of lines) part ×
            (first_of_part part ≡ Some fault)
        by-uid h =
            let both : Some (get_or numbered.faults n None) ≡ Some (first_of_part (of_uid h.0)) =
            sym (ap (option_map (λ n. get_or numbered.faults n None)) h.1) ∙ uid-at h.0 (place-has h.0 n h.1) in
            let same : get_or numbered.faults n None ≡ first_of_part (of_uid h.0) = cc in
            (of_uid h.0, is-part h.0 (place-has h.0 n h.1), sym same ∙ e)

        by-lone : IsLone needed events fault → (part : Part) × Contains (parts_of lines) part × (first_of_part part ≡ Some fault)
        by-lone h =
            let was = was-mapped (component_seen lines) (all_events lines) h.0 h.1 in
            (was.0 ∷ [], is-lone was.0 was.1 (ap (λ (c : PartedComponentSeen). c.uids) was.2 ∙ h.2), ap needed was.2 ∙ h.3)
