-- Bounds of the onsets of a zone; the searches find the greatest and the least.
use Rattle.std.proofs.Common.{◌≡◌, ◌≢◌, ℕ, ◌+◌, ◌<◌, ◌≤◌, inl, inr, Bool, true, refl, ◌∙◌, arith, List, [], ◌∷◌, length, Option, Some, None}
use Rattle.std.proofs.Common.{slice_get, ℤ, pos, negsuc, ◌+ℤ◌, ◌*ℤ◌, ◌<ℤ◌, ◌≤ℤ◌}
use Rattle.std.proofs.lemmas.Bool.{or_left}
use Rattle.std.proofs.lemmas.Int.{ints}
use Rattle.std.proofs.lemmas.Option.{slice_get_within}
use Rattle.std.proofs.lemmas.Bool.Decides.{Decides-eqb}
use Rattle.ics_fields.specs.declared.local.Local.{Local}
use Rattle.ics_fields.specs.Days.{IsStampDay}
use Rattle.ics_fields.proofs.DayLemmas.{day_index_parts}
use Rattle.ics_fields.specs.Locals.{number}
use Rattle.ics_zone.specs.Observances.{ObservanceSaid, IsObservanceSaid, IsZone, epoch, instant_by, is_begin, test_at, is_onset}
use Rattle.ics_zone.specs.ZoneOffsets.{IsOnset, IsInForce, IsBeforeAll, IsOffset, instant, natural, instants_to, if_onset, last_at, first_at, in_force}
use Rattle.ics_zone.specs.ZoneOffsets.{last_midnight, earliest, offset_by, zone_offset}
use Rattle.ics_zone.specs.Inner.ZoneBounds.{if_onset-some}
use Rattle.ics_zone.specs.Inner.Searches.{last_below-is, first_below-is, natural-is}

-- the seconds of a local from 1970-01-01 on, by its number
pub number-seconds : (l : Local) → IsStampDay l.day → pos (number l) ≡ l.day *ℤ pos 86_400 +ℤ pos l.second +ℤ pos epoch
number-seconds l h = grind (arith, ints, day_index_parts)

test_at-true : (z : ℤ) (test : ℕ → Bool) → test_at z test ≡ true → (n : ℕ) × (z ≡ pos n) × (test n ≡ true)
test_at-true (pos n) test e = (n, refl, e)
test_at-true (negsuc n) test e = absurd (cc)

-- an onset is the instant of a local at which the observance begins, and the other way round
pub onset-local : (p : ObservanceSaid) (t : ℤ) → is_onset p t ≡ true → (n : ℕ) × (t ≡ instant_by p.offset_from n) × (is_begin p n ≡ true)
unfolding is_onset
onset-local p t e = let found = test_at-true (t +ℤ p.offset_from +ℤ pos epoch) (is_begin p) e in (found.0, omega (arith, ints), found.2)

pub local-onset : (p : ObservanceSaid) (t : ℤ) (n : ℕ) → t ≡ instant_by p.offset_from n → is_onset p t ≡ is_begin p n
unfolding is_onset
local-onset p t n e = let at : t +ℤ p.offset_from +ℤ pos epoch ≡ pos n = omega (arith, ints) in rw at refl

-- an observance begins at its DTSTART
pub start_is_onset : (p : ObservanceSaid) → is_onset p (instant_by p.offset_from (number p.start)) ≡ true
start_is_onset p = local-onset p (instant_by p.offset_from (number p.start)) (number p.start) refl
    ∙ or_left _ _ ((Decides-eqb (number p.start) (number p.start)).1 refl)

-- each onset has a number among the instants
pub onset_number : (p : ObservanceSaid) → IsObservanceSaid p → (t : ℤ) → is_onset p t ≡ true → (k : ℕ) × (t ≡ instant k)
onset_number p facts t e =
    let found = onset-local p t e in
    let is = natural-is (t +ℤ pos (epoch + 86_400)) (omega (arith, ints)) in
    (natural (t +ℤ pos (epoch + 86_400)), omega (arith, ints))

pub in_instants : (t : ℤ) (k : ℕ) → instant k ≤ℤ t → k < instants_to t
in_instants t k h = let is = natural-is (t +ℤ pos (epoch + 86_401)) (omega (arith, ints)) in omega (arith, ints)

natural-below : (z : ℤ) (k : ℕ) → k < natural z → pos k <ℤ z
natural-below (pos n) k h = omega (arith, ints)
natural-below (negsuc n) k h = absurd (omega arith)

pub from_instants : (t : ℤ) (k : ℕ) → k < instants_to t → instant k ≤ℤ t
from_instants t k h = let below = natural-below (t +ℤ pos (epoch + 86_401)) k h in omega (arith, ints)

if_onset-none : (o : Option ObservanceSaid) (t : ℤ) (p : ObservanceSaid) → o ≡ Some p → is_onset p t ≡ true → if_onset o t ≡ None → ⊥
if_onset-none o t p e is none = grind (arith, ints)

module _ (zone : List ObservanceSaid) (facts : IsZone zone) where
  -- the last and the first onset of an instant
  last_at-some : (t : ℤ) (p : ObservanceSaid) → last_at zone t ≡ Some p →
      (i : ℕ) × IsOnset zone i t p × ((j : ℕ) (q : ObservanceSaid) → IsOnset zone j t q → j ≤ i)
  last_at-some t p e =
      let found = rw e at (last_below-is (λ i. if_onset (slice_get zone i) t) (length zone)) in (
        found.place,
        if_onset-some (slice_get zone found.place) t p found.gives,
        λ j q h. let within = slice_get_within zone j q h.0 in grind (arith, ints, if_onset-none),
      )

  first_at-some : (t : ℤ) (p : ObservanceSaid) → first_at zone t ≡ Some p →
      (i : ℕ) × IsOnset zone i t p × ((j : ℕ) (q : ObservanceSaid) → IsOnset zone j t q → i ≤ j)
  first_at-some t p e =
      let found = rw e at (first_below-is (λ i. if_onset (slice_get zone i) t) (length zone)) in
      (found.place, if_onset-some (slice_get zone found.place) t p found.gives, λ j q h. grind (arith, ints, if_onset-none))

  last_at-none : (t : ℤ) (i : ℕ) (p : ObservanceSaid) → last_at zone t ≡ None → IsOnset zone i t p → ⊥
  last_at-none t i p none h = if_onset-none (slice_get zone i) t p h.0 h.1
      ((rw none at (last_below-is (λ i. if_onset (slice_get zone i) t) (length zone))) i (slice_get_within zone i p h.0))

  first_at-none : (t : ℤ) (i : ℕ) (p : ObservanceSaid) → first_at zone t ≡ None → IsOnset zone i t p → ⊥
  first_at-none t i p none h = if_onset-none (slice_get zone i) t p h.0 h.1
      ((rw none at (first_below-is (λ i. if_onset (slice_get zone i) t) (length zone))) i (slice_get_within zone i p h.0))

  numbered : (i : ℕ) (s : ℤ) (p : ObservanceSaid) → IsOnset zone i s p → (k : ℕ) × ((s ≡ instant k) × IsOnset zone i (instant k) p)
  numbered i s p h = let k = onset_number p (facts i p h.0) s h.1 in let at = k.1 in (k.0, (k.1, (h.0, rw at at h.1)))

  in_force-some : (t : ℤ) (p : ObservanceSaid) → in_force zone t ≡ Some p → IsInForce zone t p
  unfolding in_force
  in_force-some t p e =
      let found = rw e at (last_below-is (λ k. last_at zone (instant k)) (instants_to t)) in
      let last = last_at-some (instant found.place) p found.gives in
      record {
        place = last.0;
        since = instant found.place;
        onset = last.1;
        not_after = from_instants t found.place found.in_bound;
        greatest = λ i s q h l.
            let k = numbered i s q h in let later = found.later k.0 in let same = last.2 i q in grind (arith, ints, last_at-none, in_instants);
      }

  in_force-none : (t : ℤ) (i : ℕ) (s : ℤ) (p : ObservanceSaid) → in_force zone t ≡ None → IsOnset zone i s p → t <ℤ s
  unfolding in_force
  in_force-none t i s p none h =
      let k = numbered i s p h in
      let all = (rw none at (last_below-is (λ k. last_at zone (instant k)) (instants_to t))) k.0 in
      grind (arith, ints, last_at-none, in_instants)

  earliest-some : (t : ℤ) (p : ObservanceSaid) → in_force zone t ≡ None → earliest zone ≡ Some p → IsBeforeAll zone t p
  unfolding earliest
  earliest-some t p none e =
      let found = rw e at (first_below-is (λ k. first_at zone (instant k)) (instants_to last_midnight)) in
      let first = first_at-some (instant found.place) p found.gives in
      record {
        place = first.0;
        first = instant found.place;
        onset = first.1;
        before = in_force-none t first.0 (instant found.place) p none first.1;
        least = λ i s q h.
            let k = numbered i s q h in let earlier = found.earlier k.0 in let same = first.2 i q in grind (arith, ints, first_at-none);
      }

-- a zone with an observance has a least onset
earliest-none : (p : ObservanceSaid) (zone : List ObservanceSaid) → IsZone (p ∷ zone) → earliest (p ∷ zone) ≡ None → ⊥
unfolding earliest
earliest-none p zone facts none =
    let is = facts 0 p refl in
    let start = start_is_onset p in
    let k = onset_number p is (instant_by p.offset_from (number p.start)) start in
    let seconds = number-seconds p.start is.start_in in
    let early : instant k.0 ≤ℤ last_midnight = omega (arith, ints) in
    first_at-none (p ∷ zone) facts (instant k.0) 0 p
    ((rw none at (first_below-is (λ k. first_at (p ∷ zone) (instant k)) (instants_to last_midnight))) k.0 (in_instants last_midnight k.0 early))
    (refl, let at = k.1 in rw at at start)

pub offset_found : (zone : List ObservanceSaid) → IsZone zone → (t : ℤ) → zone ≢ [] → IsOffset zone t (zone_offset zone t)
unfolding zone_offset
offset_found [] facts t some = absurd (some refl)
offset_found (p ∷ zone) facts t some = by (in_force (p ∷ zone) t) (earliest (p ∷ zone)) refl refl
  where
    by : (now first : Option ObservanceSaid) → in_force (p ∷ zone) t ≡ now → earliest (p ∷ zone) ≡ first → IsOffset (p ∷ zone) t (offset_by now first)
    by (Some q) first is least = inl (q, in_force-some (p ∷ zone) facts t q is, refl)
    by None (Some q) is least = inr (q, earliest-some (p ∷ zone) facts t q is least, refl)
    by None None is least = absurd (earliest-none p zone facts least)
