-- The onsets of a zone as numbers in order.
use Rattle.std.specs.Prelude.{◌≡◌, true, ℕ, ◌+◌, ◌<◌, ◌≤◌, List, length, slice_index_or, ℤ, pos, ◌+ℤ◌, ◌*ℤ◌, ◌≤ℤ◌}
use Rattle.std.specs.List.{Contains}
use Rattle.ics_rule.specs.Kept.{is_kept}
use Rattle.ics_period.specs.Recurrence.{Recurrence}
use Rattle.ics_zone.specs.declared.onsets.Onsets.{Onsets}
use Rattle.ics_zone.specs.Observances.{ObservanceSaid, instant_by}
use Rattle.ics_zone.specs.Inner.Latest.{IsInOrder}
use Rattle.ics_zone.specs.Inner.OnsetSets.{Has}
use Rattle.ics_zone.specs.ZoneOffsets.{IsOnset}

-- the number of an onset: numbers are in the order of instants, and then of places
abbrev pub onset_number : ℤ → ℕ → ℤ
onset_number at place = at *ℤ pos 16_777_216 +ℤ pos place

-- n is the number of an onset of the observance at a place, from one instant on and not after another
pub record IsNumberedBy (onsets : Onsets) (place : ℕ) (from last n : ℤ) : Type 0 where
  pub at : ℤ
  pub onset : Has onsets at
  pub late : from ≤ℤ at
  pub early : at ≤ℤ last
  pub is : n ≡ onset_number at place

-- n is the number of an onset at a local that a rule keeps, from one local on and before another
pub record IsKeptNumber (r : Recurrence) (offset : ℤ) (place from end : ℕ) (n : ℤ) : Type 0 where
  pub local : ℕ
  pub kept : is_kept r local ≡ true
  pub late : from ≤ local
  pub early : local < end
  pub is : n ≡ onset_number (instant_by offset local) place

-- n is the number of an onset of a zone, from one instant on and not after another
pub record IsNumbered (zone : List ObservanceSaid) (from last n : ℤ) : Type 0 where
  pub at : ℤ
  pub place : ℕ
  pub observance : ObservanceSaid
  pub onset : IsOnset zone place at observance
  pub late : from ≤ℤ at
  pub early : at ≤ℤ last
  pub is : n ≡ onset_number at place

-- a list has the number of each onset of the first `count` observances from one instant on and not after another, and no other number
pub record AreNumbered (zone : List ObservanceSaid) (count : ℕ) (from last : ℤ) (list : List ℤ) : Type 0 where
  pub known : (n : ℤ) → Contains list n → IsNumbered zone from last n
  pub complete : (i : ℕ) (s : ℤ) (p : ObservanceSaid) → i < count → IsOnset zone i s p → from ≤ℤ s → s ≤ℤ last → Contains list (onset_number s i)

-- the same of all observances, in order, where no two onsets have the same number
pub record IsTable (zone : List ObservanceSaid) (from last : ℤ) (list : List ℤ) : Type 0 where
  pub in_room : length zone ≤ 16_777_216
  pub numbered : AreNumbered zone (length zone) from last list
  pub in_order : IsInOrder list

-- next is the instant of the number after the k-th, or the instant after the last one if there is none
pub record IsNextOf (list : List ℤ) (k : ℕ) (last next : ℤ) : Type 0 where
  pub place : ℕ
  pub in_room : place < 16_777_216
  pub is : k + 1 < length list → slice_index_or list (k + 1) (pos 0) ≡ onset_number next place
  pub end : length list ≤ k + 1 → next ≡ last +ℤ pos 1
