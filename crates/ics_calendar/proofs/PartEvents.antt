-- The sound events that are kept under the number of a part are those of the part.
use Rattle.std.proofs.Common.{◌≡◌, ◌≢◌, ◌⊎◌, inl, inr, ℕ, ◌<◌, Bool, true, false, ◌==◌, List, [], ◌∷◌, ◌++◌, length, get_or, map, filter, refl, sym, ap, ◌∙◌}
use Rattle.std.proofs.Common.{append_assoc, arith, Option, Some, None, Result, Ok, Err, cond, subst, ⊎_elim}
use Rattle.std.specs.Cmp.Lexicographic.{bytes_decides}
use Rattle.std.specs.List.{Contains, flat_map, fold}
use Rattle.std.specs.Str.{bytes_eq}
use Rattle.std.proofs.lemmas.Grind.{fold-append}
use Rattle.std.proofs.lemmas.List.{append-nil, get_or_default}
use Rattle.std.proofs.lemmas.List.Elements.{Contains-append_cases, filter-append}
use Rattle.std.proofs.lemmas.Bool.{ne_eqb}
use Rattle.ics_components.specs.declared.fault.Fault.{Fault}
use Rattle.ics_components.specs.ParsedFileSeen.{ParsedFileSeen}
use Rattle.ics_components.specs.Parted.{PartedComponentSeen}
use Rattle.ics_calendar.specs.Inner.PartsRead.{Labelled, Numbered, keys_of, labelled, nothing_labelled, place_from, sound_in, with_event, with_key}
use Rattle.ics_calendar.specs.Inner.SoundParts.{SoundEventSeen, of_parts}
use Rattle.ics_calendar.proofs.Numbers.{Are_long, Keys, events-long, has, key-at, keys-long}
use Rattle.ics_calendar.proofs.NumbersBack.{IsAlone, events-alone, itself, keys-alone, not-alone, now-alone, place-now, still-alone}
use Rattle.ics_calendar.proofs.OneUid.{any-of}
use Rattle.ics_calendar.proofs.PartLaws.{here, no-element, there}
use Rattle.ics_calendar.proofs.PartNumbers.{IsPlaced, at-end, events-kept, own-placed, sound-is}

abbrev pub under : ℕ → List SoundEventSeen → List SoundEventSeen
under n events = of_parts (λ other. other == n) events

abbrev pub sounds : ℕ → PartedComponentSeen → List SoundEventSeen
sounds n event = sound_in n event event.read

-- a sound event of that number, and of another
all-under : (n : ℕ) (event : PartedComponentSeen) (read : Result ParsedFileSeen Fault) → under n (sound_in n event read) ≡ sound_in n event read
all-under n event (Ok read) =
    let sound : SoundEventSeen = record { part = n; calendar = event.calendar; zones = event.zones; read = read } in
    ap (λ t. cond t (sound ∷ []) []) (itself n)
all-under n event (Err fault) = refl

none-under : (m n : ℕ) (event : PartedComponentSeen) (read : Result ParsedFileSeen Fault) → m ≢ n → under n (sound_in m event read) ≡ []
none-under m n event (Ok read) other =
    let sound : SoundEventSeen = record { part = m; calendar = event.calendar; zones = event.zones; read = read } in
    ap (λ t. cond t (sound ∷ []) []) (ne_eqb m n other)
none-under m n event (Err fault) other = refl

nothing-under : (n : ℕ) (events : List SoundEventSeen) → ((sound : SoundEventSeen) → Contains events sound → sound.part ≢ n) → under n events ≡ []
nothing-under n [] h = refl
nothing-under n (sound ∷ events) h =
    let again = nothing-under n events (λ other k. h other (there sound events other k)) in
    ap (λ t. cond t (sound ∷ under n events) (under n events)) (ne_eqb sound.part n (h sound (here sound events))) ∙ again

module _ (needed : PartedComponentSeen → Option Fault) where
  abbrev start : Labelled → Numbered
  start had = record had.numbered { part = 0 }

  under-more : (n : ℕ) (had : Labelled) (event : PartedComponentSeen) →
      under n (with_event needed had event).events
      ≡ under n had.events ++ under n (sound_in (with_event needed had event).numbered.part event event.read)
  under-more n had event =
      filter-append (λ (sound : SoundEventSeen). sound.part == n) had.events (sound_in (with_event needed had event).numbered.part event event.read)

  -- THE EVENTS OF A UID, each of which has no other.
  module _ (uid : List ℕ) (n : ℕ) where
    not-of : (event : PartedComponentSeen) (had : Numbered) (part : ℕ) → place_from 0 had.keys uid ≡ Some n → has uid event ≡ false →
        IsPlaced (needed event) had event.uids part → part ≢ n
    not-of event had part e none (inl h) same =
        let one : Some h.0 ≡ Some uid =
        sym (key-at had.keys h.0 part h.2).1 ∙ ap (λ k. get_or had.keys k None) same ∙ (key-at had.keys uid n e).1 in
        let equal : h.0 ≡ uid = cc in
        let some : has uid event ≡ true = any-of (bytes_eq uid) event.uids h.0 h.1 ((bytes_decides uid h.0).1 (sym equal)) in
        let never : true ≡ false = sym some ∙ none in
        cc
    not-of event had part e none (inr h) same =
        let both : None ≡ Some uid =
        sym h.1.key ∙ get_or_default had.keys part (Some []) None h.1.within ∙ ap (λ k. get_or had.keys k None) same ∙ (key-at had.keys uid n e).1 in
        cc

    part-of : (event : PartedComponentSeen) (had : Labelled) (events : List PartedComponentSeen) → event.uids ≡ uid ∷ [] →
        place_from 0 (fold (with_event needed) (with_event needed had event) events).numbered.keys uid ≡ Some n →
        (with_event needed had event).numbered.part ≡ n
    part-of event had events one e =
        let now : Numbered = (with_event needed had event).numbered in
        let is : now ≡ with_key (needed event) (start had) (Some uid) = ap (λ uids. fold (with_key (needed event)) (start had) (keys_of uids)) one in
        let place : place_from 0 now.keys uid ≡ Some now.part =
        subst (λ (m : Numbered). place_from 0 m.keys uid ≡ Some m.part) (sym is) (place-now had.numbered.keys uid) in
        let both : Some now.part ≡ Some n = sym (events-kept needed events (with_event needed had event) uid now.part place) ∙ e in
        let same : now.part ≡ n = cc in
        same

    one-under : (event : PartedComponentSeen) (had : Labelled) (events : List PartedComponentSeen) → Are_long had.numbered →
        (has uid event ≡ true → event.uids ≡ uid ∷ []) →
        place_from 0 (fold (with_event needed) (with_event needed had event) events).numbered.keys uid ≡ Some n →
        (t : Bool) → has uid event ≡ t →
        under n (sound_in (with_event needed had event).numbered.part event event.read) ≡ cond t (sounds n event) []
    one-under event had events long one e true is =
        ap (λ part. under n (sound_in part event event.read)) (part-of event had events (one is) e) ∙ all-under n event event.read
    one-under event had events long one e false is =
        let next : Labelled = with_event needed had event in
        let end : Numbered = (fold (with_event needed) next events).numbered in
        none-under next.numbered.part n event event.read
        (not-of event end next.numbered.part e is
        (at-end needed events event next next.numbered.part (own-placed (needed event) event.uids (start had) long)))

    kept-from : (events : List PartedComponentSeen) (had : Labelled) → Are_long had.numbered →
        ((event : PartedComponentSeen) → Contains events event → has uid event ≡ true → event.uids ≡ uid ∷ []) →
        place_from 0 (fold (with_event needed) had events).numbered.keys uid ≡ Some n →
        under n (fold (with_event needed) had events).events ≡ under n had.events ++ flat_map (sounds n) (filter (has uid) events)
    kept-from [] had long one e = sym (append-nil (under n had.events))
    kept-from (event ∷ events) had long one e =
        kept-from events (with_event needed had event) (keys-long (needed event) (keys_of event.uids) (start had) long)
        (λ other k. one other (there event events other k)) e
        ∙ ap (λ (front : List SoundEventSeen). front ++ flat_map (sounds n) (filter (has uid) events))
        (under-more n had event
        ∙ ap (λ (own : List SoundEventSeen). under n had.events ++ own)
        (one-under event had events long (one event (here event events)) e (has uid event) refl))
        ∙ by_test (has uid event)
      where
        by_test : (t : Bool) →
            (under n had.events ++ cond t (sounds n event) []) ++ flat_map (sounds n) (filter (has uid) events)
            ≡ under n had.events ++ flat_map (sounds n) (cond t (event ∷ filter (has uid) events) (filter (has uid) events))
        by_test true = append_assoc (under n had.events) (sounds n event) (flat_map (sounds n) (filter (has uid) events))
        by_test false = append_assoc (under n had.events) [] (flat_map (sounds n) (filter (has uid) events))

    pub kept-of-uid : (events : List PartedComponentSeen) →
        ((event : PartedComponentSeen) → Contains events event → has uid event ≡ true → event.uids ≡ uid ∷ []) →
        place_from 0 (labelled needed events).numbered.keys uid ≡ Some n →
        under n (labelled needed events).events ≡ flat_map (sounds n) (filter (has uid) events)
    kept-of-uid events one e = kept-from events nothing_labelled refl one e

  -- AN EVENT WITHOUT A UID stands alone under its number: the count of the keys before it.
  other-part : (x fault : Option Fault) (key : Option (List ℕ)) (keys : Keys) (had : Numbered) (n : ℕ) → IsAlone x had n →
      (fold (with_key fault) (with_key fault had key) keys).part ≢ n
  other-part x fault key [] had n is same = not-alone had.keys n is.within is.key key (sym same)
  other-part x fault key (next ∷ keys) had n is same =
      other-part x fault next keys (with_key fault had key) n (still-alone x fault had key n is) same

  other-own : (x fault : Option Fault) (uids : List (List ℕ)) (had : Numbered) (n : ℕ) → IsAlone x had n →
      (fold (with_key fault) had (keys_of uids)).part ≢ n
  other-own x fault [] had n is = other-part x fault None [] had n is
  other-own x fault (uid ∷ uids) had n is = other-part x fault (Some uid) (map (λ uid. Some uid) uids) had n is

  none-behind : (x : Option Fault) (events : List PartedComponentSeen) (had : Labelled) (n : ℕ) → IsAlone x had.numbered n →
      under n (fold (with_event needed) had events).events ≡ under n had.events
  none-behind x [] had n is = refl
  none-behind x (event ∷ events) had n is =
      let alone : IsAlone x (start had) n = record { within = is.within; key = is.key; first = is.first } in
      none-behind x events (with_event needed had event) n (keys-alone x (needed event) (keys_of event.uids) (start had) n alone)
      ∙ under-more n had event
      ∙ ap (λ (own : List SoundEventSeen). under n had.events ++ own)
      (none-under (with_event needed had event).numbered.part n event event.read (other-own x (needed event) event.uids (start had) n alone))
      ∙ append-nil (under n had.events)

  -- A SOUND EVENT is that of an event at some place among all.
  abbrev pub SplitAt : List PartedComponentSeen → Labelled → SoundEventSeen → Type 0
  SplitAt events had sound =
      (front : List PartedComponentSeen) × (event : PartedComponentSeen) × (back : List PartedComponentSeen) × (events ≡ front ++ event ∷ back)
      × (sound.part ≡ (with_event needed (fold (with_event needed) had front) event).numbered.part)

  split-of : (events : List PartedComponentSeen) (had : Labelled) (sound : SoundEventSeen) →
      Contains (fold (with_event needed) had events).events sound → Contains had.events sound ⊎ SplitAt events had sound
  split-of [] had sound k = inl k
  split-of (event ∷ events) had sound k = ⊎_elim by-now by-later (split-of events next sound k)
    where
      next : Labelled
      next = with_event needed had event

      by-later : SplitAt events next sound → Contains had.events sound ⊎ SplitAt (event ∷ events) had sound
      by-later (front, other, back, e, p) = inr (event ∷ front, other, back, ap (λ (es : List PartedComponentSeen). event ∷ es) e, p)

      by-now : Contains next.events sound → Contains had.events sound ⊎ SplitAt (event ∷ events) had sound
      by-now k =
          ⊎_elim inl
          (λ (h : Contains (sound_in next.numbered.part event event.read) sound). inr (
            [],
            event,
            events,
            refl,
            sound-is needed next.numbered.part event event.read sound h,
          ))
          (Contains-append_cases had.events (sound_in next.numbered.part event event.read) sound k)

  pub sound-split : (events : List PartedComponentSeen) (sound : SoundEventSeen) → Contains (labelled needed events).events sound →
      SplitAt events nothing_labelled sound
  sound-split events sound k = ⊎_elim (λ h. absurd (no-element sound h)) (λ h. h) (split-of events nothing_labelled sound k)

  -- the number that an event has at its place is one of its keys among all
  pub placed-at : (front : List PartedComponentSeen) (event : PartedComponentSeen) (back : List PartedComponentSeen) →
      IsPlaced (needed event) (labelled needed (front ++ event ∷ back)).numbered event.uids (with_event needed (labelled needed front) event).numbered.part
  placed-at front event back =
      let had : Labelled = labelled needed front in
      let next : Labelled = with_event needed had event in
      subst (λ (all : Labelled). IsPlaced (needed event) all.numbered event.uids next.numbered.part)
      (sym (fold-append (with_event needed) nothing_labelled front (event ∷ back)))
      (at-end needed back event next next.numbered.part (own-placed (needed event) event.uids (start had) (events-long needed front nothing_labelled refl)))

  below : (events : List PartedComponentSeen) (sound : SoundEventSeen) → Contains (labelled needed events).events sound →
      sound.part < length (labelled needed events).numbered.keys
  below events sound k = by-split (sound-split events sound k)
    where
      within : (x : Option Fault) (had : Numbered) (uids : List (List ℕ)) (n : ℕ) → IsPlaced x had uids n → n < length had.keys
      within x had uids n (inl p) = (key-at had.keys p.0 n p.2).0
      within x had uids n (inr p) = p.1.within

      by-split : SplitAt events nothing_labelled sound → sound.part < length (labelled needed events).numbered.keys
      by-split (front, event, back, e, p) =
          let part : ℕ = (with_event needed (labelled needed front) event).numbered.part in
          subst (λ (es : List PartedComponentSeen). sound.part < length (labelled needed es).numbered.keys) (sym e)
          (subst (λ n. n < length (labelled needed (front ++ event ∷ back)).numbered.keys) (sym p)
          (within (needed event) (labelled needed (front ++ event ∷ back)).numbered event.uids part (placed-at front event back)))

  pub kept-of-lone : (front : List PartedComponentSeen) (event : PartedComponentSeen) (back : List PartedComponentSeen) → event.uids ≡ [] →
      let n : ℕ = length (labelled needed front).numbered.keys in
      IsAlone (needed event) (labelled needed (front ++ event ∷ back)).numbered n
      × (under n (labelled needed (front ++ event ∷ back)).events ≡ sounds n event)
  kept-of-lone front event back none =
      subst (λ (all : Labelled). IsAlone (needed event) all.numbered n × (under n all.events ≡ sounds n event))
      (sym (fold-append (with_event needed) nothing_labelled front (event ∷ back)))
      (events-alone needed (needed event) back next n now, none-behind (needed event) back next n now ∙ under-more n had event ∙ own)
    where
      had : Labelled
      had = labelled needed front

      next : Labelled
      next = with_event needed had event

      n : ℕ
      n = length had.numbered.keys

      long : Are_long had.numbered
      long = events-long needed front nothing_labelled refl

      now : IsAlone (needed event) next.numbered n
      now =
          subst (λ uids. IsAlone (needed event) (fold (with_key (needed event)) (start had) (keys_of uids)) n) (sym none)
          (now-alone (needed event) (start had) long)

      part : next.numbered.part ≡ n
      part = ap (λ uids. (fold (with_key (needed event)) (start had) (keys_of uids)).part) none

      empty : under n had.events ≡ []
      empty = nothing-under n had.events (λ sound k same. let less = below front sound k in omega (arith, less, same))

      own : under n had.events ++ under n (sound_in next.numbered.part event event.read) ≡ sounds n event
      own =
          ap (λ (some : List SoundEventSeen). some ++ under n (sound_in next.numbered.part event event.read)) empty
          ∙ ap (λ part. under n (sound_in part event event.read)) part ∙ all-under n event event.read
