-- The numbers of parts: at the number of a UID stands the first fault of what the events need that have it.
use Rattle.std.proofs.Common.{◌≡◌, ◌≢◌, ℕ, ◌+◌, ◌<◌, Bool, true, false, ◌||◌, List, [], ◌∷◌, ◌++◌, length, get_or, map, filter, refl, sym, ap, ◌∙◌, arith}
use Rattle.std.proofs.Common.{Option, Some, None, cond, suc, subst}
use Rattle.std.proofs.Math.Seq.{get_or-append_seam}
use Rattle.std.specs.Prelude.{nat_le, option_map, unwrap_or}
use Rattle.std.specs.Cmp.Lexicographic.{bytes_decides}
use Rattle.std.specs.List.{fold, list_any}
use Rattle.std.specs.Option.{option_or}
use Rattle.std.specs.Str.{bytes_eq}
use Rattle.std.proofs.lemmas.List.{get_or-set_other, get_or-set_same, get_or_append_left, length-append}
use Rattle.ics_components.specs.declared.fault.Fault.{Fault}
use Rattle.ics_components.specs.PartFaults.{earlier}
use Rattle.ics_components.specs.Parted.{PartedComponentSeen}
use Rattle.ics_calendar.specs.Inner.PartsRead.{Labelled, Numbered, is_key, keys_of, labelled, least_at, nothing_labelled, number_of, place_from, with_event}
use Rattle.ics_calendar.specs.Inner.PartsRead.{with_key}
use Rattle.ics_calendar.specs.Inner.SoundParts.{fault_there}
use Rattle.ics_calendar.proofs.Shared.{long-more, place-more}

abbrev pub Keys : Type 0
Keys = List (Option (List ℕ))

abbrev pub Are_long : Numbered → Type 0
Are_long had = length had.faults ≡ length had.keys

-- A KEY STANDS where it is said to.
pub key-is : (uid : List ℕ) (key : Option (List ℕ)) → is_key uid key ≡ true → key ≡ Some uid
key-is uid None e = cc
key-is uid (Some other) e = ap (λ (u : List ℕ). Some u) (sym ((bytes_decides uid other).0 e))

pub is-itself : (uid : List ℕ) → is_key uid (Some uid) ≡ true
is-itself uid = (bytes_decides uid uid).1 refl

abbrev Stands : ℕ → Keys → List ℕ → ℕ → Type 0
Stands k keys uid n = (m : ℕ) × (n ≡ k + m) × (m < length keys) × (get_or keys m None ≡ Some uid)

stands-from : (k : ℕ) (keys : Keys) (uid : List ℕ) (n : ℕ) → place_from k keys uid ≡ Some n → Stands k keys uid n
stands-from k [] uid n e = cc
stands-from k (key ∷ keys) uid n e = by_test (is_key uid key) refl (stands-from (k + 1) keys uid n) e
  where
    by_test : (t : Bool) → is_key uid key ≡ t → (place_from (k + 1) keys uid ≡ Some n → Stands (k + 1) keys uid n) →
        cond t (Some k) (place_from (k + 1) keys uid) ≡ Some n → Stands k (key ∷ keys) uid n
    by_test true is again e = let same : k ≡ n = cc in (0, omega (arith, same), omega arith, key-is uid key is)
    by_test false is again e = let at = again e in (suc at.0, omega (arith, at.1), omega (arith, at.2), at.3)

pub key-at : (keys : Keys) (uid : List ℕ) (n : ℕ) → place_from 0 keys uid ≡ Some n → (n < length keys) × (get_or keys n None ≡ Some uid)
key-at keys uid n e =
    let at = stands-from 0 keys uid n e in
    let same : at.0 ≡ n = omega (arith, at.1) in
    subst (λ m. (m < length keys) × (get_or keys m None ≡ Some uid)) same (at.2, at.3)

-- the number of another key is another
apart : (keys : Keys) (key : Option (List ℕ)) (uid : List ℕ) (n : ℕ) → place_from 0 keys uid ≡ Some n → is_key uid key ≡ false → n ≢ number_of keys key
apart keys None uid n e is same = let less = (key-at keys uid n e).0 in omega (arith, less, same)
apart keys (Some other) uid n e is same = by_place (place_from 0 keys other) refl same
  where
    by_place : (o : Option ℕ) → place_from 0 keys other ≡ o → n ≡ unwrap_or o (length keys) → ⊥
    by_place None f same = let less = (key-at keys uid n e).0 in omega (arith, less, same)
    by_place (Some m) f same =
        let one : Some uid ≡ Some other = sym (key-at keys uid n e).1 ∙ ap (λ k. get_or keys k None) same ∙ (key-at keys other m f).1 in
        let equal : uid ≡ other = cc in
        let never : true ≡ false = sym (is-itself uid) ∙ ap (λ u. is_key uid (Some u)) equal ∙ is in
        cc

-- WHAT STANDS AT A NUMBER, if a part has it.
abbrev pub at : Numbered → List ℕ → Option (Option Fault)
at had uid = option_map (λ n. get_or had.faults n None) (place_from 0 had.keys uid)

abbrev pub noted : Option Fault → Bool → Option (Option Fault) → Option (Option Fault)
noted fault t o = cond t (Some (earlier (fault_there o) fault)) o

module _ (fault : Option Fault) (faults : List (Option Fault)) where
  pub there-now : (n : ℕ) → n < length (faults ++ None ∷ []) →
      get_or (least_at fault (faults ++ None ∷ []) n) n None ≡ earlier (get_or (faults ++ None ∷ []) n None) fault
  there-now n less = get_or-set_same (faults ++ None ∷ []) n (earlier (get_or (faults ++ None ∷ []) n None) fault) None less

  there-still : (n m : ℕ) → n < length faults → n ≢ m → get_or (least_at fault (faults ++ None ∷ []) m) n None ≡ get_or faults n None
  there-still n m less other =
      get_or-set_other (faults ++ None ∷ []) m n (earlier (get_or (faults ++ None ∷ []) m None) fault) None other
      ∙ get_or_append_left faults (None ∷ []) None n less

  pub longer : length (faults ++ None ∷ []) ≡ length faults + 1
  longer = length-append faults (None ∷ [])

step-at : (fault : Option Fault) (had : Numbered) (key : Option (List ℕ)) (uid : List ℕ) → Are_long had →
    at (with_key fault had key) uid ≡ noted fault (is_key uid key) (at had uid)
step-at fault had key uid long =
    ap (option_map (λ n. get_or now n None)) (place-more had.keys key uid) ∙ by_cases (place_from 0 had.keys uid) (is_key uid key) refl refl
  where
    number : ℕ
    number = number_of had.keys key

    now : List (Option Fault)
    now = least_at fault (had.faults ++ None ∷ []) number

    by_cases : (o : Option ℕ) (t : Bool) → place_from 0 had.keys uid ≡ o → is_key uid key ≡ t →
        option_map (λ n. get_or now n None) (option_or o (cond t (Some (length had.keys)) None))
        ≡ noted fault t (option_map (λ n. get_or had.faults n None) o)
    by_cases None false e is = refl
    by_cases None true e is =
        let new : number ≡ length had.keys = ap (number_of had.keys) (key-is uid key is) ∙ ap (λ o. unwrap_or o (length had.keys)) e in
        let last : number ≡ length had.faults = new ∙ sym long in
        let empty : get_or (had.faults ++ None ∷ []) number None ≡ None =
        ap (λ n. get_or (had.faults ++ None ∷ []) n None) last ∙ get_or-append_seam had.faults None [] None in
        let more = longer fault had.faults in
        ap (λ (x : Option Fault). Some x)
        (ap (λ n. get_or now n None) (sym new) ∙ there-now fault had.faults number (omega (arith, more, last)) ∙ ap (λ x. earlier x fault) empty)
    by_cases (Some n) false e is =
        let less = (key-at had.keys uid n e).0 in
        ap (λ (x : Option Fault). Some x) (there-still fault had.faults n number (omega (arith, less, long)) (apart had.keys key uid n e is))
    by_cases (Some n) true e is =
        let same : number ≡ n = ap (number_of had.keys) (key-is uid key is) ∙ ap (λ o. unwrap_or o (length had.keys)) e in
        let less = (key-at had.keys uid n e).0 in
        let more = longer fault had.faults in
        ap (λ (x : Option Fault). Some x)
        (ap (λ m. get_or now m None) (sym same) ∙ there-now fault had.faults number (omega (arith, more, less, long, same))
        ∙ ap (λ m. earlier (get_or (had.faults ++ None ∷ []) m None) fault) same
        ∙ ap (λ x. earlier x fault) (get_or_append_left had.faults (None ∷ []) None n (omega (arith, less, long))))

pub still-long : (fault : Option Fault) (had : Numbered) (key : Option (List ℕ)) → Are_long had → Are_long (with_key fault had key)
still-long fault had key long = long-more fault had.faults had.keys key (number_of had.keys key) long

pub keys-long : (fault : Option Fault) (keys : Keys) (had : Numbered) → Are_long had → Are_long (fold (with_key fault) had keys)
keys-long fault [] had long = long
keys-long fault (key ∷ keys) had long = keys-long fault keys (with_key fault had key) (still-long fault had key long)

keys-at : (fault : Option Fault) (keys : Keys) (had : Numbered) (uid : List ℕ) → Are_long had →
    at (fold (with_key fault) had keys) uid ≡ fold (λ o key. noted fault (is_key uid key) o) (at had uid) keys
keys-at fault [] had uid long = refl
keys-at fault (key ∷ keys) had uid long =
    keys-at fault keys (with_key fault had key) uid (still-long fault had key long)
    ∙ ap (λ o. fold (λ o key. noted fault (is_key uid key) o) o keys) (step-at fault had key uid long)

-- WITH AN EVENT MORE, which may have one UID twice.
earlier-itself : (fault : Option Fault) → earlier fault fault ≡ fault
earlier-itself None = refl
earlier-itself (Some fault) = both (nat_le fault.line fault.line)
  where
    both : (t : Bool) → cond t (Some fault) (Some fault) ≡ Some fault
    both true = refl
    both false = refl

earlier-twice : (first fault : Option Fault) → earlier (earlier first fault) fault ≡ earlier first fault
earlier-twice None fault = earlier-itself fault
earlier-twice (Some first) None = refl
earlier-twice (Some first) (Some fault) = by_test (nat_le first.line fault.line) refl
  where
    by_test : (t : Bool) → nat_le first.line fault.line ≡ t → earlier (cond t (Some first) (Some fault)) (Some fault) ≡ cond t (Some first) (Some fault)
    by_test true e = rw e refl
    by_test false e = earlier-itself (Some fault)

noted-twice : (fault : Option Fault) (s t : Bool) (o : Option (Option Fault)) → noted fault t (noted fault s o) ≡ noted fault (s || t) o
noted-twice fault false t o = refl
noted-twice fault true false o = refl
noted-twice fault true true o = ap (λ (x : Option Fault). Some x) (earlier-twice (fault_there o) fault)

all-noted : (fault : Option Fault) (uid : List ℕ) (uids : List (List ℕ)) (o : Option (Option Fault)) →
    fold (λ o key. noted fault (is_key uid key) o) o (map (λ uid. Some uid) uids) ≡ noted fault (list_any (bytes_eq uid) uids) o
all-noted fault uid [] o = refl
all-noted fault uid (u ∷ us) o =
    all-noted fault uid us (noted fault (bytes_eq uid u) o) ∙ noted-twice fault (bytes_eq uid u) (list_any (bytes_eq uid) us) o

own-noted : (fault : Option Fault) (uid : List ℕ) (uids : List (List ℕ)) (o : Option (Option Fault)) →
    fold (λ o key. noted fault (is_key uid key) o) o (keys_of uids) ≡ noted fault (list_any (bytes_eq uid) uids) o
own-noted fault uid [] o = refl
own-noted fault uid (u ∷ us) o = all-noted fault uid (u ∷ us) o

abbrev pub has : List ℕ → PartedComponentSeen → Bool
has uid event = list_any (bytes_eq uid) event.uids

abbrev pub first_of : (PartedComponentSeen → Option Fault) → Option Fault → List PartedComponentSeen → Option Fault
first_of needed first events = fold (λ first event. earlier first (needed event)) first events

module _ (needed : PartedComponentSeen → Option Fault) where
  pub events-long : (events : List PartedComponentSeen) (had : Labelled) → Are_long had.numbered → Are_long (fold (with_event needed) had events).numbered
  events-long [] had long = long
  events-long (event ∷ events) had long =
      events-long events (with_event needed had event) (keys-long (needed event) (keys_of event.uids) (record had.numbered { part = 0 }) long)

  pub events-at : (events : List PartedComponentSeen) (had : Labelled) (uid : List ℕ) → Are_long had.numbered →
      at (fold (with_event needed) had events).numbered uid ≡ fold (λ o event. noted (needed event) (has uid event) o) (at had.numbered uid) events
  events-at [] had uid long = refl
  events-at (event ∷ events) had uid long =
      events-at events (with_event needed had event) uid (keys-long (needed event) (keys_of event.uids) (record had.numbered { part = 0 }) long)
      ∙ ap (λ o. fold (λ o event. noted (needed event) (has uid event) o) o events)
      (keys-at (needed event) (keys_of event.uids) (record had.numbered { part = 0 }) uid long ∙ own-noted (needed event) uid event.uids (at had.numbered uid))

  some-noted : (uid : List ℕ) (events : List PartedComponentSeen) (first : Option Fault) →
      fold (λ o event. noted (needed event) (has uid event) o) (Some first) events ≡ Some (first_of needed first (filter (has uid) events))
  some-noted uid [] first = refl
  some-noted uid (event ∷ events) first = by_test (has uid event) (some-noted uid events)
    where
      by_test : (t : Bool) → ((first : Option Fault) →
          fold (λ o event. noted (needed event) (has uid event) o) (Some first) events ≡ Some (first_of needed first (filter (has uid) events))) →
          fold (λ o event. noted (needed event) (has uid event) o) (noted (needed event) t (Some first)) events
          ≡ Some (first_of needed first (cond t (event ∷ filter (has uid) events) (filter (has uid) events)))
      by_test true again = again (earlier first (needed event))
      by_test false again = again first

  first-noted : (uid : List ℕ) (events : List PartedComponentSeen) → list_any (has uid) events ≡ true →
      fold (λ o event. noted (needed event) (has uid event) o) None events ≡ Some (first_of needed None (filter (has uid) events))
  first-noted uid [] e = cc
  first-noted uid (event ∷ events) e = by_test (has uid event) (first-noted uid events) e
    where
      by_test : (t : Bool) → (list_any (has uid) events ≡ true →
          fold (λ o event. noted (needed event) (has uid event) o) None events ≡ Some (first_of needed None (filter (has uid) events))) →
          (t || list_any (has uid) events) ≡ true →
          fold (λ o event. noted (needed event) (has uid event) o) (noted (needed event) t None) events
          ≡ Some (first_of needed None (cond t (event ∷ filter (has uid) events) (filter (has uid) events)))
      by_test true again e = some-noted uid events (needed event)
      by_test false again e = again e

  -- THE FIRST FAULT of the part of a UID stands at its number.
  pub uid-first : (events : List PartedComponentSeen) (uid : List ℕ) → list_any (has uid) events ≡ true →
      at (labelled needed events).numbered uid ≡ Some (first_of needed None (filter (has uid) events))
  uid-first events uid e = events-at events nothing_labelled uid refl ∙ first-noted uid events e
