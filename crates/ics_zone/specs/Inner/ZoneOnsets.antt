-- The onsets of a zone, observance by observance.
use Rattle.std.specs.Prelude.{◌≡◌, ℕ, ◌<◌, ◌≤◌, ◌⊎◌, List, length, Option, Some, MatchOption, slice_get, slice_index_or, ℤ, pos, ◌+ℤ◌, ◌<ℤ◌, ◌≤ℤ◌}
use Rattle.std.specs.List.{All, Contains}
use Rattle.ics_zone.specs.declared.latest.Latest.{Latest}
use Rattle.ics_zone.specs.declared.latest.Steady.{Steady}
use Rattle.ics_zone.specs.declared.onsets.Onsets.{Onsets}
use Rattle.ics_zone.specs.declared.seconds.OffsetEachSecond.{OffsetEachSecond}
use Rattle.ics_zone.specs.Observances.{ObservanceSaid}
use Rattle.ics_zone.specs.ZoneOffsets.{IsOnset, IsNotLater, zone_offset}
use Rattle.ics_zone.specs.Inner.EachSecond.{TellsOffsets}
use Rattle.ics_zone.specs.Inner.OnsetSets.{AreOnsetsOf}
use Rattle.ics_zone.specs.Moments.{shown}

-- the i-th onsets are those of the i-th observance
pub record AreOnsetsOfAll (zone : List ObservanceSaid) (onsets : List Onsets) : Type 0 where
  pub same_length : length onsets ≡ length zone
  pub each : (i : ℕ) (p : ObservanceSaid) (d : Onsets) → slice_get zone i ≡ Some p → AreOnsetsOf p (slice_index_or onsets i d)

-- a list has both offsets of an observance
pub record HasOffsets (offsets : List ℤ) (p : ObservanceSaid) : Type 0 where
  pub from : Contains offsets p.offset_from
  pub to : Contains offsets p.offset_to

-- a list has both offsets of each observance
abbrev pub HaveOffsets : List ℤ → List ObservanceSaid → Type 0
HaveOffsets offsets zone = (i : ℕ) (p : ObservanceSaid) → slice_get zone i ≡ Some p → HasOffsets offsets p

-- the offset is the same from one instant on, before another
abbrev pub IsSteady : (ℤ → ℤ) → ℤ → ℤ → ℤ → Type 0
IsSteady offset from next value = (t : ℤ) → from ≤ℤ t → t <ℤ next → value ≡ offset t

-- the same of each span of a list
abbrev pub AreSteady : (ℤ → ℤ) → List Steady → Type 0
AreSteady offset spans = All (λ (s : Steady). IsSteady offset s.from s.next s.offset) spans

-- what a zone holds: at least one observance, the onsets of each, every offset that the zone has, spans with one offset, and offsets second by second
pub record IsKnown (zone : List ObservanceSaid) (onsets : List Onsets) (offsets : List ℤ) (held : List Steady) (each : List OffsetEachSecond) : Type 0 where
  pub some : 0 < length zone
  pub asked : AreOnsetsOfAll zone onsets
  pub all_offsets : (t : ℤ) → Contains offsets (zone_offset zone t)
  pub spans : AreSteady (zone_offset zone) held
  pub each_second : All (TellsOffsets (zone_offset zone)) each

-- the greatest onset not after t of the first `count` observances
pub record IsLatest (zone : List ObservanceSaid) (t : ℤ) (count : ℕ) (latest : Latest) : Type 0 where
  pub observance : ObservanceSaid
  pub onset : IsOnset zone latest.place latest.at observance
  pub offset : latest.offset ≡ observance.offset_to
  pub before : latest.place < count
  pub not_after : latest.at ≤ℤ t
  pub greatest : (i : ℕ) (s : ℤ) (p : ObservanceSaid) → i < count → IsOnset zone i s p → s ≤ℤ t → IsNotLater s i latest.at latest.place

-- an onset is one of the zone, unless it is at the greatest instant
abbrev pub IsOnsetOf : List ObservanceSaid → Latest → Type 0
IsOnsetOf zone onset = onset.at <ℤ pos 9_223_372_036_854_775_807 → (p : ObservanceSaid) × IsOnset zone onset.place onset.at p

-- the greatest onset up to t, or None if those observances have none
abbrev pub IsLatestOf : List ObservanceSaid → ℤ → ℕ → Option Latest → Type 0
IsLatestOf zone t count found =
    MatchOption found ((i : ℕ) (s : ℤ) (p : ObservanceSaid) → i < count → IsOnset zone i s p → t <ℤ s) (IsLatest zone t count)

-- the same, if that onset is after an instant, or None if those observances have no onset after that instant and up to t
abbrev pub IsLatestWithin : List ObservanceSaid → ℤ → ℤ → ℕ → Option Latest → Type 0
IsLatestWithin zone after t count found =
    MatchOption found ((i : ℕ) (s : ℤ) (p : ObservanceSaid) → i < count → IsOnset zone i s p → s ≤ℤ t → s ≤ℤ after)
    (λ l. IsLatest zone t count l × (after <ℤ l.at))

-- TZOFFSETFROM of the least onset of the first `count` observances
pub record IsFirst (zone : List ObservanceSaid) (count : ℕ) (first offset : ℤ) : Type 0 where
  pub place : ℕ
  pub in_bound : place ≤ count
  pub observance : ObservanceSaid
  pub onset : IsOnset zone place first observance
  pub least : (i : ℕ) (s : ℤ) (p : ObservanceSaid) → i < count → IsOnset zone i s p → IsNotLater first place s i
  pub is : offset ≡ observance.offset_from

abbrev pub IsFirstOffset : List ObservanceSaid → ℤ → Type 0
IsFirstOffset zone offset = (first : ℤ) × IsFirst zone (length zone) first offset

-- no onset after one instant and before another begins an offset that shows a later local
abbrev pub IsNextPast : List ObservanceSaid → ℤ → ℤ → ℤ → Type 0
IsNextPast zone local after next =
    (i : ℕ) (s : ℤ) (p : ObservanceSaid) → IsOnset zone i s p → after <ℤ s → s <ℤ next → (s +ℤ p.offset_to) ≤ℤ local

-- each onset after one instant and before another that begins an offset that shows a later local is overridden at its own instant by one
-- that does not
abbrev pub IsClear : List ObservanceSaid → ℤ → ℤ → ℤ → Type 0
IsClear zone local after next =
    (i : ℕ) (s : ℤ) (p : ObservanceSaid) → IsOnset zone i s p → after <ℤ s → s <ℤ next → local <ℤ (s +ℤ p.offset_to)
    → (j : ℕ) × ((q : ObservanceSaid) × (IsOnset zone j s q × ((i < j) × ((s +ℤ q.offset_to) ≤ℤ local))))

-- each onset that is after one instant and before another begins the same offset
abbrev pub KeepOffset : List ObservanceSaid → ℤ → ℤ → ℤ → Type 0
KeepOffset zone offset after next =
    (i : ℕ) (s : ℤ) (p : ObservanceSaid) → IsOnset zone i s p → after <ℤ s → (offset ≡ p.offset_to) ⊎ (next ≤ℤ s)

-- each onset after one instant and before another begins the same offset, or is overridden at its own instant by one that does
abbrev pub StayOffset : List ObservanceSaid → ℤ → ℤ → ℤ → Type 0
StayOffset zone offset after next =
    (i : ℕ) (s : ℤ) (p : ObservanceSaid) → IsOnset zone i s p → after <ℤ s → s <ℤ next
    → (offset ≡ p.offset_to) ⊎ ((j : ℕ) × ((q : ObservanceSaid) × (IsOnset zone j s q × ((i < j) × (offset ≡ q.offset_to)))))

-- an onset not after t is greater than all of the observances with an offset
pub record IsOverridden (zone : List ObservanceSaid) (t offset : ℤ) : Type 0 where
  pub place : ℕ
  pub at : ℤ
  pub observance : ObservanceSaid
  pub onset : IsOnset zone place at observance
  pub not_after : at ≤ℤ t
  pub greater : (i : ℕ) (s : ℤ) (p : ObservanceSaid) → IsOnset zone i s p → p.offset_to ≡ offset → s ≤ℤ t → (s <ℤ at) ⊎ ((s ≡ at) × (i < place))

-- the first instant at which the clock shows a later local
pub record IsJump (offset : ℤ → ℤ) (local t : ℤ) : Type 0 where
  pub is_later : local <ℤ shown offset t
  pub first : (s : ℤ) → local <ℤ shown offset s → t ≤ℤ s
