-- Events each of which has a UID that no other has are kept as if they had none.
use Rattle.std.proofs.Common.{◌≡◌, ℕ, ◌+◌, ◌<◌, ◌≤◌, Bool, true, false, ◌==◌, List, [], ◌∷◌, ◌++◌, length, map, refl, sym, ap, ◌∙◌, arith, cond}
use Rattle.std.proofs.Common.{Option, Some, None, fold, subst, suc}
use Rattle.std.specs.Prelude.{nat_lt, unwrap_or}
use Rattle.std.proofs.lemmas.Bool.{ne_eqb}
use Rattle.std.proofs.lemmas.Bool.Decides.{nat_tests}
use Rattle.std.proofs.lemmas.List.{length-append}
use Rattle.ics_components.specs.declared.fault.Fault.{Fault}
use Rattle.ics_components.specs.Parted.{PartedComponentSeen}
use Rattle.ics_components.proofs.RestFaults.{two-of}
use Rattle.ics_calendar.specs.Inner.PartsRead.{Labelled, Numbered, is_above, is_key, labelled, least_at, nothing_labelled, number_at_end, number_of}
use Rattle.ics_calendar.specs.Inner.PartsRead.{numbered_with, own_number, place_from, rise_from, searched, sound_in, with_event, with_key}
use Rattle.ics_calendar.proofs.Numbers.{Keys, key-is}

-- the keys before, of which none has a number above the last
abbrev IsBelow : ℕ → Option (List ℕ) → Type 0
IsBelow last None = Unit {0}
IsBelow last (Some uid) = number_at_end uid ≤ last

abbrev AreBelow : ℕ → Keys → Type 0
AreBelow last [] = Unit {0}
AreBelow last (key ∷ keys) = IsBelow last key × AreBelow last keys

below-key : (last next : ℕ) (key : Option (List ℕ)) → last ≤ next → IsBelow last key → IsBelow next key
below-key last next None le h = tt
below-key last next (Some uid) le h = omega (arith, le, h)

below-more : (last : ℕ) (keys : Keys) (uid : List ℕ) → last < number_at_end uid → AreBelow last keys → AreBelow (number_at_end uid) (keys ++ Some uid ∷ [])
below-more last [] uid less h = (omega arith, tt)
below-more last (key ∷ keys) uid less h = (below-key last (number_at_end uid) key (omega (arith, less)) h.0, below-more last keys uid less h.1)

not-key : (last : ℕ) (uid : List ℕ) (key : Option (List ℕ)) → last < number_at_end uid → IsBelow last key → is_key uid key ≡ false
not-key last uid key less h = by_test (is_key uid key) refl
  where
    by_test : (t : Bool) → is_key uid key ≡ t → t ≡ false
    by_test false e = refl
    by_test true e = let le : number_at_end uid ≤ last = subst (IsBelow last) (key-is uid key e) h in absurd (omega (arith, less, le))

no-place : (last n : ℕ) (keys : Keys) (uid : List ℕ) → last < number_at_end uid → AreBelow last keys → place_from n keys uid ≡ None
no-place last n [] uid less h = refl
no-place last n (key ∷ keys) uid less h = rw (not-key last uid key less h.0) (no-place last (n + 1) keys uid less h.1)

-- THE SAME IS KEPT of events that have UIDs and of others.
pub record AreAlike (had lone : Labelled) : Type 0 where
  pub faults : had.numbered.faults ≡ lone.numbered.faults
  pub events : had.events ≡ lone.events
  pub long : length had.numbered.keys ≡ length lone.numbered.keys

above-is : (last n : ℕ) → nat_lt last n ≡ true → last < n
above-is last n e = grind (arith, nat_tests, e)

one-uid : (last : ℕ) (uid other : List ℕ) (more : List (List ℕ)) → is_above last (own_number (uid ∷ other ∷ more)) ≡ true → ⊥
one-uid last uid other more e =
    let never : (length (uid ∷ other ∷ more) == 1) ≡ false =
    ne_eqb (length (uid ∷ other ∷ more)) 1 (λ (same : suc (suc (length more)) ≡ 1). omega (arith, same)) in
    let no : false ≡ true = ap (λ t. is_above last (cond t (Some (number_at_end uid)) None)) (sym never) ∙ e in
    cc

module _ (needed : PartedComponentSeen → Option Fault) (without : (event : PartedComponentSeen) → needed (searched true event) ≡ needed event) where
  abbrev next : Labelled → PartedComponentSeen → Labelled
  next = with_event needed

  -- an event with a UID of its own
  step : (had lone : Labelled) (event : PartedComponentSeen) (uid : List ℕ) (last : ℕ) → event.uids ≡ uid ∷ [] → AreAlike had lone →
      AreBelow last had.numbered.keys → last < number_at_end uid →
      AreAlike (next had event) (next lone (searched true event)) × AreBelow (number_at_end uid) (next had event).numbered.keys
  step had lone event uid last is alike below less = (
    record {
      faults = ap (λ (n : Numbered). n.faults) numbered ∙ (λ i. least_at (sym (without event) i) (alike.faults i ++ None ∷ []) (place i));
      events = ap (λ (n : Numbered). had.events ++ sound_in n.part event event.read) numbered ∙ (λ i. alike.events i ++ sound_in (place i) event event.read);
      long = ap (λ (n : Numbered). length n.keys) numbered ∙ length-append had.numbered.keys (Some uid ∷ []) ∙ ap (λ n. n + 1) alike.long
          ∙ sym (length-append lone.numbered.keys (None ∷ []));
    },
    subst (AreBelow (number_at_end uid)) (sym (ap (λ (n : Numbered). n.keys) numbered)) (below-more last had.numbered.keys uid less below),
  )
    where
      numbered : (next had event).numbered ≡ with_key (needed event) (record had.numbered { part = 0 }) (Some uid)
      numbered = ap (numbered_with (needed event) had.numbered) is

      place : number_of had.numbered.keys (Some uid) ≡ length lone.numbered.keys
      place = ap (λ o. unwrap_or o (length had.numbered.keys)) (no-place last 0 had.numbered.keys uid less below) ∙ alike.long

  abbrev IsAlike : List PartedComponentSeen → Type 0
  IsAlike events =
      (had lone : Labelled) (last : ℕ) → AreAlike had lone → AreBelow last had.numbered.keys → rise_from last events ≡ true →
      AreAlike (fold next had events) (fold next lone (map (searched true) events))

  alike-from : (events : List PartedComponentSeen) → IsAlike events
  alike-from [] had lone last alike below e = alike
  alike-from (event ∷ events) had lone last alike below e =
      let two = two-of (is_above last (own_number event.uids)) (rise_from (unwrap_or (own_number event.uids) 0) events) e in
      by_uids (alike-from events) event.uids refl two.0 two.1
    where
      by_uids : IsAlike events → (uids : List (List ℕ)) → event.uids ≡ uids → is_above last (own_number uids) ≡ true →
          rise_from (unwrap_or (own_number uids) 0) events ≡ true →
          AreAlike (fold next (next had event) events) (fold next (next lone (searched true event)) (map (searched true) events))
      by_uids again [] is above rises = cc
      by_uids again (uid ∷ other ∷ more) is above rises = absurd (one-uid last uid other more above)
      by_uids again (uid ∷ []) is above rises =
          let both = step had lone event uid last is alike below (above-is last (number_at_end uid) above) in
          again (next had event) (next lone (searched true event)) (number_at_end uid) both.0 both.1 rises

  as-they-are : (events : List PartedComponentSeen) → events ≡ map (searched false) events
  as-they-are [] = refl
  as-they-are (event ∷ events) = let more = as-they-are events in λ i. event ∷ more i

  pub alike : (is_alone : Bool) (events : List PartedComponentSeen) → rise_from 0 events ≡ is_alone →
      AreAlike (labelled needed events) (labelled needed (map (searched is_alone) events))
  alike true events e = alike-from events nothing_labelled nothing_labelled 0 (record { faults = refl; events = refl; long = refl }) tt e
  alike false events e =
      subst (λ es. AreAlike (labelled needed events) (labelled needed es)) (as-they-are events) (record { faults = refl; events = refl; long = refl })
