-- What a zone holds of its observances, one after another.
use Rattle.std.proofs.Common.{◌≡◌, ℕ, zero, suc, ◌+◌, ◌<◌, refl, subst, ◌∙◌, arith, List, [], ◌∷◌, ◌++◌, length, take, get_or, Some, Contains, slice_get, ℤ}
use Rattle.std.specs.List.{flat_map, All, AllZip}
use Rattle.std.proofs.lemmas.List.Elements.{Contains-append_right}
use Rattle.std.proofs.lemmas.List.{append_assoc, flat_map_more, take_more}
use Rattle.std.proofs.lemmas.Option.{get_or_from_slice_get, slice_get_within}
use Rattle.std.proofs.lemmas.Slice.Zip.{AllZip-long}
use Rattle.ics_zone.specs.declared.onsets.Onsets.{Onsets}
use Rattle.ics_zone.specs.Observances.{ObservanceSaid, IsObservanceSaid, IsObservance, IsZone}
use Rattle.ics_zone.specs.Inner.OnsetSets.{AreOnsetsOf}
use Rattle.ics_zone.specs.Inner.ZoneOnsets.{AreOnsetsOfAll, HaveOffsets}

-- observances that a zone may have are within the bounds of a zone
pub zone_bounds : (zone : List ObservanceSaid) → All IsObservance zone → IsZone zone
zone_bounds zone all i p there = subst IsObservanceSaid (get_or_from_slice_get zone i p p there) (all i p (slice_get_within zone i p there)).bounds

-- where all were read in order, those at a place are of the observance there
module _ (p : ObservanceSaid) (d : Onsets) where
  onsets_each : (zone : List ObservanceSaid) (list : List Onsets) → AllZip AreOnsetsOf zone list → (i : ℕ) → slice_get zone i ≡ Some p
      → AreOnsetsOf p (get_or list i d)
  onsets_each [] list all i there = absurd (cc)
  onsets_each (q ∷ zone) [] all i there = absurd all
  onsets_each (q ∷ zone) (x ∷ list) all zero there = let same : q ≡ p = cc in rw (← same) all.0
  onsets_each (q ∷ zone) (x ∷ list) all (suc i) there = onsets_each zone list all.1 i there

pub onsets_of_all : (zone : List ObservanceSaid) (list : List Onsets) → AllZip AreOnsetsOf zone list → AreOnsetsOfAll zone list
onsets_of_all zone list all = record { same_length = AllZip-long AreOnsetsOf zone list all; each = λ i p d. onsets_each p d zone list all i }

-- more offsets are there too
pub offsets_within : (zone : List ObservanceSaid) (old new : List ℤ) → ((t : ℤ) → Contains old t → Contains new t) → HaveOffsets old zone
    → HaveOffsets new zone
offsets_within zone old new within have i p there = let h = have i p there in record { from = within p.offset_from h.from; to = within p.offset_to h.to }

-- the offsets of observances, one after another
abbrev pub both_offsets : List ObservanceSaid → List ℤ
both_offsets zone = flat_map (λ p. p.offset_to ∷ p.offset_from ∷ []) zone

pub both_more : {p : ObservanceSaid} {old one new : List ℤ} (zone : List ObservanceSaid) {k : ℕ} → k < length zone → p ≡ get_or zone k p
    → one ≡ old ++ p.offset_to ∷ [] → new ≡ one ++ p.offset_from ∷ [] → old ≡ both_offsets (take k zone)
    → new ≡ both_offsets (take (k + 1) zone)
both_more {p = p} zone {k} inside at first second before =
    rw (second, first, before, take_more zone k p inside, ← at)
    (append_assoc (both_offsets (take k zone)) (p.offset_to ∷ []) (p.offset_from ∷ [])
    ∙ flat_map_more (λ (p : ObservanceSaid). p.offset_to ∷ p.offset_from ∷ []) [] (take k zone) p)

pub have_both : (zone : List ObservanceSaid) → HaveOffsets (both_offsets zone) zone
have_both [] i p e = absurd (cc)
have_both (q ∷ zone) zero p e = let same : q ≡ p = cc in rw (← same) (record { from = (1, omega arith, refl); to = (0, omega arith, refl) })
have_both (q ∷ zone) (suc i) p e =
    offsets_within zone (both_offsets zone) (both_offsets (q ∷ zone)) (Contains-append_right (q.offset_to ∷ q.offset_from ∷ []) (both_offsets zone))
    (have_both zone) i p e
