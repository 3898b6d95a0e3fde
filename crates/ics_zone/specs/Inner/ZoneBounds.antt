-- A time zone changes an instant or a local by less than two days, and one of observances by a day or less.
use Rattle.std.proofs.Common.{◌≡◌, inl, inr, true, Option, Some, None, slice_get, List, length, ℤ, pos, ◌-ℤ◌, arith, refl}
use Rattle.std.proofs.lemmas.Int.{ints}
use Rattle.jiff_core.specs.Calendar.{IsWithin}
use Rattle.ics_zone.specs.declared.zone_observances.ZoneObservances.{ZoneObservances}
use Rattle.ics_zone.specs.Observances.{ObservanceSaid, IsObservanceSaid, IsZone, is_onset}
use Rattle.ics_zone.specs.ZoneOffsets.{instant, instants_to, if_onset, last_at, first_at, in_force, last_midnight, earliest}
use Rattle.ics_zone.specs.ZoneOffsets.{offset_by, zone_offset}
use Rattle.ics_zone.specs.Moments.{IsMomentBy, zone_moment}
use Rattle.ics_zone.specs.Inner.MomentSearch.{moment_found}
use Rattle.ics_zone.specs.Inner.Searches.{last_below-is, first_below-is}
use Rattle.ics_zone.specs.Inner.Near.{jiff_offset_near, jiff_moment_near}
use Rattle.ics_zone.specs.Seconds.{IsNear}
use Rattle.ics_zone.specs.ZoneSaid.{said_offset, said_moment, zone_said}
use Rattle.ics_zone.specs.declared.zone.ZoneKind.{ZoneKind}
use Rattle.ics_zone.specs.declared.zone.ZoneKind.TheVariants.{ByObservances, ByJiff}

-- an observance with an onset at t
pub if_onset-some : (o : Option ObservanceSaid) (t : ℤ) (p : ObservanceSaid) → if_onset o t ≡ Some p → (o ≡ Some p) × (is_onset p t ≡ true)
if_onset-some o t p e = grind (arith, ints)

module _ (zone : List ObservanceSaid) (facts : IsZone zone) where
  in_force-is : (t : ℤ) (p : ObservanceSaid) → in_force zone t ≡ Some p → IsObservanceSaid p
  unfolding in_force
  in_force-is t p e =
      let k = rw e at (last_below-is (λ k. last_at zone (instant k)) (instants_to t)) in
      let i = rw k.gives at (last_below-is (λ i. if_onset (slice_get zone i) (instant k.place)) (length zone)) in
      facts i.place p (if_onset-some (slice_get zone i.place) (instant k.place) p i.gives).0

  earliest-is : (p : ObservanceSaid) → earliest zone ≡ Some p → IsObservanceSaid p
  unfolding earliest
  earliest-is p e =
      let k = rw e at (first_below-is (λ k. first_at zone (instant k)) (instants_to last_midnight)) in
      let i = rw k.gives at (first_below-is (λ i. if_onset (slice_get zone i) (instant k.place)) (length zone)) in
      facts i.place p (if_onset-some (slice_get zone i.place) (instant k.place) p i.gives).0

  -- the offsets of a zone are less than a day
  pub zone_offset_short : (t : ℤ) → IsWithin 86_399 (zone_offset zone t)
  unfolding zone_offset
  zone_offset_short t = by (in_force zone t) (earliest zone) (in_force-is t) earliest-is
    where
      by : (now first : Option ObservanceSaid) → ((p : ObservanceSaid) → now ≡ Some p → IsObservanceSaid p) →
          ((p : ObservanceSaid) → first ≡ Some p → IsObservanceSaid p)
          → IsWithin 86_399 (offset_by now first)
      by (Some p) first is least = (is p refl).to_in
      by None (Some p) is least = (least p refl).from_in
      by None None is least = (omega (arith, ints), omega (arith, ints))

-- the observances of a zone are so
pub zone_short : (zone : ZoneObservances) (t : ℤ) → IsWithin 86_399 (zone_offset zone.said.items t)
zone_short zone = zone_offset_short zone.said.items zone.in_bounds

pub zone_offset_near : (zone : ZoneObservances) (t : ℤ) → IsNear (zone_offset zone.said.items t)
zone_offset_near zone t = let bound = zone_short zone t in (omega (arith, ints), omega (arith, ints))

-- the instant of a local is near it
moment_near_by : (offset : ℤ → ℤ) (short : (t : ℤ) → IsWithin 86_399 (offset t)) (local t : ℤ) → IsMomentBy offset local t → IsNear (t -ℤ local)
moment_near_by offset short local t (inl h) = let bound = short t in (omega (arith, ints), omega (arith, ints))
moment_near_by offset short local t (inr h) = let bound = short (h.past -ℤ pos 1) in (omega (arith, ints), omega (arith, ints))

pub zone_moment_near : (zone : ZoneObservances) (local : ℤ) → IsNear (zone_moment zone.said.items local -ℤ local)
zone_moment_near zone local = moment_near_by (zone_offset zone.said.items) (zone_short zone) local (zone_moment zone.said.items local)
    (moment_found (zone_offset zone.said.items) (zone_short zone) local)

pub said_offset_near : (zone : ZoneKind) (t : ℤ) → IsNear (said_offset (zone_said zone) t)
unfolding said_offset
said_offset_near (ByObservances observances) t = zone_offset_near observances t
said_offset_near (ByJiff zone) t = jiff_offset_near zone t

pub said_moment_near : (zone : ZoneKind) (local : ℤ) → IsNear (said_moment (zone_said zone) local -ℤ local)
unfolding said_moment
said_moment_near (ByObservances observances) local = zone_moment_near observances local
said_moment_near (ByJiff zone) local = jiff_moment_near zone local
