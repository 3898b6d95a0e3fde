-- The numbers of parts: an event without a UID has one of its own, and each fault at a number is that of a part.
use Rattle.std.proofs.Common.{◌≡◌, ◌≢◌, ◌⊎◌, inl, inr, ℕ, ◌<◌, Bool, true, false, ◌==◌, List, [], ◌∷◌, ◌++◌, length, get_or, map, refl, sym, ap, ◌∙◌}
use Rattle.std.proofs.Common.{arith, Option, Some, None, cond, zero, suc}
use Rattle.std.proofs.Math.Seq.{get_or-append_seam}
use Rattle.std.specs.Prelude.{unwrap_or}
use Rattle.std.specs.List.{Contains, fold}
use Rattle.std.specs.Option.{option_or}
use Rattle.std.proofs.lemmas.Bool.Decides.{nat_tests}
use Rattle.std.proofs.lemmas.List.{get_or-set_other, get_or_append_left, get_or_default, length-append}
use Rattle.ics_components.specs.declared.fault.Fault.{Fault}
use Rattle.ics_components.specs.PartFaults.{earlier}
use Rattle.ics_components.specs.Parted.{PartedComponentSeen}
use Rattle.ics_calendar.specs.Inner.PartsRead.{Labelled, Numbered, is_key, keys_of, labelled, least_at, nothing_labelled, number_of, place_from, with_event}
use Rattle.ics_calendar.specs.Inner.PartsRead.{with_key}
use Rattle.ics_calendar.proofs.Numbers.{Are_long, Keys, is-itself, key-at, keys-long, longer, still-long, there-now}
use Rattle.ics_calendar.proofs.PartLaws.{here, there}
use Rattle.ics_calendar.proofs.Shared.{place-more}

padded : (faults : List (Option Fault)) (n : ℕ) → get_or (faults ++ None ∷ []) n None ≡ get_or faults n None
padded [] zero = refl
padded [] (suc n) = refl
padded (x ∷ xs) zero = refl
padded (x ∷ xs) (suc n) = padded xs n

other-still : (fault : Option Fault) (faults : List (Option Fault)) (n m : ℕ) → n ≢ m →
    get_or (least_at fault (faults ++ None ∷ []) m) n None ≡ get_or faults n None
other-still fault faults n m other =
    get_or-set_other (faults ++ None ∷ []) m n (earlier (get_or (faults ++ None ∷ []) m None) fault) None other ∙ padded faults n

-- what stands at the number of a new key
new-there : (fault : Option Fault) (had : Numbered) → Are_long had → get_or (with_key fault had None).faults (length had.keys) None ≡ fault
new-there fault had long =
    let more = longer fault had.faults in
    there-now fault had.faults (length had.keys) (omega (arith, more, long))
    ∙ ap (λ x. earlier x fault)
    (ap (λ n. get_or (had.faults ++ None ∷ []) n None) (sym long) ∙ get_or-append_seam had.faults None [] None)

-- AN EVENT WITHOUT A UID has a number of its own.
pub record IsAlone (fault : Option Fault) (had : Numbered) (n : ℕ) : Type 0 where
  pub within : n < length had.keys
  pub key : get_or had.keys n (Some []) ≡ None
  pub first : get_or had.faults n None ≡ fault

pub not-alone : (keys : Keys) (n : ℕ) → n < length keys → get_or keys n (Some []) ≡ None → (key : Option (List ℕ)) → n ≢ number_of keys key
not-alone keys n less none None same = omega (arith, less, same)
not-alone keys n less none (Some uid) same = by_place (place_from 0 keys uid) refl same
  where
    by_place : (o : Option ℕ) → place_from 0 keys uid ≡ o → n ≡ unwrap_or o (length keys) → ⊥
    by_place None e same = omega (arith, less, same)
    by_place (Some m) e same =
        let both : None ≡ Some uid =
        sym none ∙ get_or_default keys n (Some []) None less ∙ ap (λ k. get_or keys k None) same ∙ (key-at keys uid m e).1 in
        cc

pub still-alone : (x fault : Option Fault) (had : Numbered) (key : Option (List ℕ)) (n : ℕ) → IsAlone x had n → IsAlone x (with_key fault had key) n
still-alone x fault had key n is = record {
  within = let more = length-append had.keys (key ∷ []) in let less = is.within in omega (arith, more, less);
  key = get_or_append_left had.keys (key ∷ []) (Some []) n is.within ∙ is.key;
  first = other-still fault had.faults n (number_of had.keys key) (not-alone had.keys n is.within is.key key) ∙ is.first;
}

pub keys-alone : (x fault : Option Fault) (keys : Keys) (had : Numbered) (n : ℕ) → IsAlone x had n → IsAlone x (fold (with_key fault) had keys) n
keys-alone x fault [] had n is = is
keys-alone x fault (key ∷ keys) had n is = keys-alone x fault keys (with_key fault had key) n (still-alone x fault had key n is)

pub now-alone : (fault : Option Fault) (had : Numbered) → Are_long had → IsAlone fault (with_key fault had None) (length had.keys)
now-alone fault had long = record {
  within = let more = length-append had.keys (None ∷ []) in omega (arith, more);
  key = get_or-append_seam had.keys None [] (Some []);
  first = new-there fault had long;
}

-- EACH FAULT at a number is that of the part of a UID, or of an event without one.
abbrev Backs : (Fault → Type 0) → Numbered → Type 0
Backs P had = (n : ℕ) (fault : Fault) → get_or had.faults n None ≡ Some fault → ((uid : List ℕ) × (place_from 0 had.keys uid ≡ Some n)) ⊎ P fault

pub place-now : (keys : Keys) (uid : List ℕ) → place_from 0 (keys ++ Some uid ∷ []) uid ≡ Some (number_of keys (Some uid))
place-now keys uid =
    place-more keys (Some uid) uid ∙ ap (λ t. option_or (place_from 0 keys uid) (cond t (Some (length keys)) None)) (is-itself uid)
    ∙ by_place (place_from 0 keys uid)
  where
    by_place : (o : Option ℕ) → option_or o (Some (length keys)) ≡ Some (unwrap_or o (length keys))
    by_place None = refl
    by_place (Some n) = refl

pub itself : (n : ℕ) → (n == n) ≡ true
itself n = grind (arith, nat_tests)

step-back : (P : Fault → Type 0) (fault : Option Fault) (had : Numbered) (key : Option (List ℕ)) → Are_long had →
    (key ≡ None → (f : Fault) → fault ≡ Some f → P f) → Backs P had → Backs P (with_key fault had key)
step-back P fault had key long alone backs n f e = by_test (n == number_of had.keys key) refl
  where
    Back : Type 0
    Back = ((uid : List ℕ) × (place_from 0 (had.keys ++ key ∷ []) uid ≡ Some n)) ⊎ P f

    by_key : (k : Option (List ℕ)) → key ≡ k → n ≡ number_of had.keys key → Back
    by_key None is same =
        let at : fault ≡ Some f = sym (new-there fault had long)
        ∙ (λ i. get_or (with_key fault had (sym is i)).faults ((sym (same ∙ ap (number_of had.keys) is)) i) None) ∙ e in
        inr (alone is f at)
    by_key (Some uid) is same =
        inl (
          uid,
          ap (λ k. place_from 0 (had.keys ++ k ∷ []) uid) is ∙ place-now had.keys uid
              ∙ ap (λ (m : ℕ). Some m) (sym (same ∙ ap (number_of had.keys) is)),
        )

    by_old : ((uid : List ℕ) × (place_from 0 had.keys uid ≡ Some n)) ⊎ P f → Back
    by_old (inl h) =
        inl (h.0, place-more had.keys key h.0 ∙ ap (λ o. option_or o (cond (is_key h.0 key) (Some (length had.keys)) None)) h.1)
    by_old (inr h) = inr h

    by_test : (t : Bool) → (n == number_of had.keys key) ≡ t → Back
    by_test true is = by_key key refl (grind (arith, nat_tests, is))
    by_test false is =
        let other : n ≢ number_of had.keys key = λ same. let never : true ≡ false = sym (itself n) ∙ ap (λ m. n == m) same ∙ is in cc in
        by_old (backs n f (sym (other-still fault had.faults n (number_of had.keys key) other) ∙ e))

keys-back : (P : Fault → Type 0) (fault : Option Fault) (uids : List (List ℕ)) (had : Numbered) → Are_long had → Backs P had →
    Backs P (fold (with_key fault) had (map (λ uid. Some uid) uids))
keys-back P fault [] had long backs = backs
keys-back P fault (uid ∷ uids) had long backs =
    keys-back P fault uids (with_key fault had (Some uid)) (still-long fault had (Some uid) long)
    (step-back P fault had (Some uid) long (λ is. let no : Some uid ≡ None = is in cc) backs)

own-back : (P : Fault → Type 0) (fault : Option Fault) (uids : List (List ℕ)) (had : Numbered) → Are_long had →
    (uids ≡ [] → (f : Fault) → fault ≡ Some f → P f) → Backs P had → Backs P (fold (with_key fault) had (keys_of uids))
own-back P fault [] had long alone backs = step-back P fault had None long (λ is. alone refl) backs
own-back P fault (uid ∷ uids) had long alone backs = keys-back P fault (uid ∷ uids) had long backs

module _ (needed : PartedComponentSeen → Option Fault) where
  pub events-alone : (x : Option Fault) (events : List PartedComponentSeen) (had : Labelled) (n : ℕ) → IsAlone x had.numbered n →
      IsAlone x (fold (with_event needed) had events).numbered n
  events-alone x [] had n is = is
  events-alone x (event ∷ events) had n is =
      events-alone x events (with_event needed had event) n
      (keys-alone x (needed event) (keys_of event.uids) (record had.numbered { part = 0 }) n (record { within = is.within; key = is.key; first = is.first }))

  abbrev pub IsLone : List PartedComponentSeen → Fault → Type 0
  IsLone events fault = (event : PartedComponentSeen) × Contains events event × (event.uids ≡ []) × (needed event ≡ Some fault)

  events-back : (P : Fault → Type 0) (events : List PartedComponentSeen) (had : Labelled) → Are_long had.numbered →
      ((f : Fault) → IsLone events f → P f) → Backs P had.numbered → Backs P (fold (with_event needed) had events).numbered
  events-back P [] had long into backs = backs
  events-back P (event ∷ events) had long into backs =
      events-back P events (with_event needed had event) (keys-long (needed event) (keys_of event.uids) (record had.numbered { part = 0 }) long)
      (λ f is. into f (is.0, there event events is.0 is.1, is.2, is.3))
      (own-back P (needed event) event.uids (record had.numbered { part = 0 }) long (λ none f e. into f (event, here event events, none, e)) backs)

  pub first-back : (events : List PartedComponentSeen) (n : ℕ) (fault : Fault) → get_or (labelled needed events).numbered.faults n None ≡ Some fault →
      ((uid : List ℕ) × (place_from 0 (labelled needed events).numbered.keys uid ≡ Some n)) ⊎ IsLone events fault
  first-back events = events-back (IsLone events) events nothing_labelled refl (λ f is. is) (λ n fault e. let no : None ≡ Some fault = e in cc)
