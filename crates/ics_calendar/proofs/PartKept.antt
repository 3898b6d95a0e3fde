-- WHAT IS KEPT OF EACH PART of a file: a number, at which its first fault stands, and under which its sound events are.
use Rattle.std.proofs.Common.{◌≡◌, inl, inr, ℕ, Bool, true, false, List, [], ◌∷◌, ◌++◌, map, refl, sym, ap, ◌∙◌, Option, Some, subst, ⊎_elim}
use Rattle.std.proofs.Common.{length}
use Rattle.std.specs.Cmp.Lexicographic.{bytes_decides}
use Rattle.std.specs.List.{Contains, flat_map, fold, list_any}
use Rattle.std.specs.Str.{bytes_eq}
use Rattle.std.proofs.lemmas.List.{append-nil}
use Rattle.std.proofs.lemmas.List.Elements.{Contains-append_right}
use Rattle.ics_components.specs.declared.fault.Fault.{Fault}
use Rattle.ics_components.specs.EventLines.{all_events, has_uid, uids_of}
use Rattle.ics_components.specs.Parted.{PartedComponentSeen, component_seen}
use Rattle.ics_components.specs.PlacedLines.{Placed}
use Rattle.ics_calendar.specs.Parts.{Part, parts_of}
use Rattle.ics_calendar.specs.Inner.PartsRead.{Labelled, keys_of, labelled, nothing_labelled, place_from, with_event, with_key}
use Rattle.ics_calendar.specs.Inner.SoundParts.{SoundEventSeen}
use Rattle.ics_calendar.proofs.Numbers.{has}
use Rattle.ics_calendar.proofs.NumbersBack.{IsAlone}
use Rattle.ics_calendar.proofs.OneUid.{AtMostOne, any-of, each-part, was-mapped}
use Rattle.ics_calendar.proofs.PartEvents.{SplitAt, kept-of-lone, kept-of-uid, placed-at, sound-split, sounds, under}
use Rattle.ics_calendar.proofs.PartLaws.{at-cons, here, kept, mapped, no-element}
use Rattle.ics_calendar.proofs.PartNumbers.{HasNumber, IsPlaced, alone-at, at-place, events, filter-mapped, first_of_part, has-none, is-lone, is-part}
use Rattle.ics_calendar.proofs.PartNumbers.{long, of-place, of_uid, place-has, uid-at}

-- an element stands between others
split-at : {X : Type 0} (xs : List X) (x : X) → Contains xs x → (front : List X) × (back : List X) × (xs ≡ front ++ x ∷ back)
split-at [] x k = absurd (no-element x k)
split-at (y ∷ ys) x k =
    ⊎_elim (λ (e : y ≡ x). ([], ys, ap (λ z. z ∷ ys) e))
    (λ h. let more = split-at ys x h in (y ∷ more.0, more.1, ap (λ zs. y ∷ zs) more.2)) (at-cons y ys x k)

-- one UID alone
pub the-one : (us : List (List ℕ)) (uid : List ℕ) → AtMostOne us → list_any (bytes_eq uid) us ≡ true → us ≡ uid ∷ []
the-one [] uid one e = cc
the-one (u ∷ []) uid one e = by_test (bytes_eq uid u) refl e
  where
    by_test : (t : Bool) → bytes_eq uid u ≡ t → list_any (bytes_eq uid) (u ∷ []) ≡ true → (u ∷ []) ≡ uid ∷ []
    by_test true is e = ap (λ v. v ∷ []) (sym ((bytes_decides uid u).0 is))
    by_test false is e = let never = rw is at e in cc
the-one (u ∷ v ∷ us) uid one e = absurd one

module _ (needed : PartedComponentSeen → Option Fault) (lines : List Placed) where
  abbrev all : Labelled
  all = labelled needed (events needed lines)

  abbrev seen : List Placed → List PartedComponentSeen
  seen some = map (component_seen lines) some

  -- no event of a part has two UIDs
  abbrev pub OneEach : Part → Type 0
  OneEach part = (event : Placed) → Contains part event → AtMostOne (uids_of lines event)

  pub record IsKept (part : Part) (n : ℕ) : Type 0 where
    pub first : HasNumber needed lines part n
    pub sound : OneEach part → under n all.events ≡ flat_map (sounds n) (seen part)

  uid-kept : (uid : List ℕ) (n : ℕ) → place_from 0 all.numbered.keys uid ≡ Some n → IsKept (of_uid needed lines uid) n
  uid-kept uid n e = record {
    first = of-place needed lines uid n e;
    sound = λ one. kept-of-uid needed uid n (events needed lines) (λ event k is. by-event one event k is) e
        ∙ ap (flat_map (sounds n)) (filter-mapped (component_seen lines) (has uid) (all_events lines));
  }
    where
      by-event : OneEach (of_uid needed lines uid) → (event : PartedComponentSeen) → Contains (events needed lines) event → has uid event ≡ true →
          event.uids ≡ uid ∷ []
      by-event one event k is =
          let was = was-mapped (component_seen lines) (all_events lines) event k in
          let own : has_uid lines uid was.0 ≡ true = ap (has uid) was.2 ∙ is in
          sym (ap (λ (c : PartedComponentSeen). c.uids) was.2)
          ∙ the-one (uids_of lines was.0) uid (one was.0 (kept (has_uid lines uid) (all_events lines) was.0 own was.1)) own

  lone-kept : (event : Placed) (front back : List PartedComponentSeen) → events needed lines ≡ front ++ component_seen lines event ∷ back →
      uids_of lines event ≡ [] → IsKept (event ∷ []) (length (labelled needed front).numbered.keys)
  lone-kept event front back e none = record {
    first = alone-at (needed one) all.numbered n (long needed lines) (subst (λ es. IsAlone (needed one) (labelled needed es).numbered n) (sym e) is.0);
    sound = λ h. ap (λ es. under n (labelled needed es).events) e ∙ is.1 ∙ sym (append-nil (sounds n one));
  }
    where
      one : PartedComponentSeen
      one = component_seen lines event

      n : ℕ
      n = length (labelled needed front).numbered.keys

      is : IsAlone (needed one) (labelled needed (front ++ one ∷ back)).numbered n × (under n (labelled needed (front ++ one ∷ back)).events ≡ sounds n one)
      is = kept-of-lone needed front one back none

  -- EACH PART is kept under a number, and each sound event has that of a part.
  pub into-kept : (part : Part) → Contains (parts_of lines) part → (n : ℕ) × IsKept part n
  into-kept =
      each-part lines (λ part. (n : ℕ) × IsKept part n)
      (λ uid u. let stands = at-place all.numbered uid (first_of_part needed lines (of_uid needed lines uid)) (long needed lines) (uid-at needed lines uid u) in
      (stands.0, uid-kept uid stands.0 stands.1))
      (λ event i none.
      let parts = split-at (events needed lines) (component_seen lines event) (mapped (component_seen lines) (all_events lines) event i) in
      (length (labelled needed parts.0).numbered.keys, lone-kept event parts.0 parts.1 parts.2 (has-none (uids_of lines event) none)))

  -- the part of an event at its place, and its number there
  abbrev pub OwnKept : Placed → ℕ → Type 0
  OwnKept event n = (part : Part) × Contains (parts_of lines) part × Contains part event × IsKept part n

  pub own-kept : (event : Placed) (front back : List PartedComponentSeen) → events needed lines ≡ front ++ component_seen lines event ∷ back →
      Contains (all_events lines) event → OwnKept event (with_event needed (labelled needed front) (component_seen lines event)).numbered.part
  own-kept event front back e inside = by-placed placed-there
    where
      had : Labelled
      had = labelled needed front

      one : PartedComponentSeen
      one = component_seen lines event

      next : Labelled
      next = with_event needed had one

      placed-there : IsPlaced (needed one) all.numbered one.uids next.numbered.part
      placed-there =
          subst (λ es. IsPlaced (needed one) (labelled needed es).numbered one.uids next.numbered.part) (sym e) (placed-at needed front one back)

      by-placed : IsPlaced (needed one) all.numbered one.uids next.numbered.part → OwnKept event next.numbered.part
      by-placed (inl h) = (
        of_uid needed lines h.0,
        is-part needed lines h.0 (place-has needed lines h.0 next.numbered.part h.2),
        kept (has_uid lines h.0) (all_events lines) event
            (any-of (bytes_eq h.0) (uids_of lines event) h.0 h.1 ((bytes_decides h.0 h.0).1 refl)) inside,
        uid-kept h.0 next.numbered.part h.2,
      )
      by-placed (inr h) =
          let n : next.numbered.part ≡ length had.numbered.keys =
          ap (λ uids. (fold (with_key (needed one)) (record had.numbered { part = 0 }) (keys_of uids)).part) h.0 in
          (event ∷ [], is-lone needed lines event inside h.0, here event [], subst (IsKept (event ∷ [])) (sym n) (lone-kept event front back e h.0))

  pub of-kept : (sound : SoundEventSeen) → Contains all.events sound → (part : Part) × Contains (parts_of lines) part × IsKept part sound.part
  of-kept sound k = by-split (sound-split needed (events needed lines) sound k)
    where
      by-split : SplitAt needed (events needed lines) nothing_labelled sound → (part : Part) × Contains (parts_of lines) part × IsKept part sound.part
      by-split (front, event, back, e, p) =
          let inside : Contains (events needed lines) event =
          subst (λ es. Contains es event) (sym e) (Contains-append_right front (event ∷ back) event (here event back)) in
          let was = was-mapped (component_seen lines) (all_events lines) event inside in
          let own = own-kept was.0 front back (e ∙ ap (λ c. front ++ c ∷ back) (sym was.2)) was.1 in
          let n : sound.part ≡ (with_event needed (labelled needed front) (component_seen lines was.0)).numbered.part =
          p ∙ ap (λ c. (with_event needed (labelled needed front) c).numbered.part) (sym was.2) in
          (own.0, own.1, subst (IsKept own.0) (sym n) own.3)
