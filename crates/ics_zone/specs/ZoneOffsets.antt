-- The offset of a zone at an instant (RFC 5545, section 3.6.5).
use Rattle.std.specs.Prelude.{◌≡◌, ℕ, zero, suc, ◌+◌, ◌≤◌, ◌⊎◌, true, false, List, length, Option, Some, None, slice_get, ℤ, pos, negsuc, ◌+ℤ◌, ◌-ℤ◌, ◌<ℤ◌}
use Rattle.std.specs.Prelude.{◌≤ℤ◌}
use Rattle.ics_fields.specs.Days.{before_year}
use Rattle.ics_fields.specs.Locals.{midnight}
use Rattle.ics_zone.specs.Observances.{ObservanceSaid, epoch, is_onset}

-- the i-th observance of a zone has an onset at this instant
abbrev pub IsOnset : List ObservanceSaid → ℕ → ℤ → ObservanceSaid → Type 0
IsOnset zone i t p = (slice_get zone i ≡ Some p) × (is_onset p t ≡ true)

-- onsets are ordered by instant, then by place in the component
abbrev pub IsNotLater : ℤ → ℕ → ℤ → ℕ → Type 0
IsNotLater s i t j = (s <ℤ t) ⊎ ((s ≡ t) × (i ≤ j))

-- the greatest onset not after t is one of observance p
pub record IsInForce (zone : List ObservanceSaid) (t : ℤ) (p : ObservanceSaid) : Type 0 where
  pub place : ℕ
  pub since : ℤ
  pub onset : IsOnset zone place since p
  pub not_after : since ≤ℤ t
  pub greatest : (i : ℕ) (s : ℤ) (other : ObservanceSaid) → IsOnset zone i s other → s ≤ℤ t → IsNotLater s i since place

-- t is before all onsets, and the least of them is one of observance p
pub record IsBeforeAll (zone : List ObservanceSaid) (t : ℤ) (p : ObservanceSaid) : Type 0 where
  pub place : ℕ
  pub first : ℤ
  pub onset : IsOnset zone place first p
  pub before : t <ℤ first
  pub least : (i : ℕ) (s : ℤ) (other : ObservanceSaid) → IsOnset zone i s other → IsNotLater first place s i

-- the offset at t is TZOFFSETTO of the greatest onset not after t or, before all onsets, TZOFFSETFROM of the least
abbrev pub IsOffset : List ObservanceSaid → ℤ → ℤ → Type 0
IsOffset zone t offset =
    ((p : ObservanceSaid) × IsInForce zone t p × (offset ≡ p.offset_to))
    ⊎ ((p : ObservanceSaid) × IsBeforeAll zone t p × (offset ≡ p.offset_from))

-- what f gives at the greatest number below n at which it gives something, and what it gives at the least
unfoldable pub last_below : {A : Type 0} → ℕ → (ℕ → Option A) → Option A
last_below zero f = None
last_below (suc n) f = elim (f n) [ Some x ↦ Some x | None ↦ last_below n f ]

unfoldable pub first_below : {A : Type 0} → ℕ → (ℕ → Option A) → Option A
first_below zero f = None
first_below (suc n) f = elim (first_below n f) [ Some x ↦ Some x | None ↦ f n ]

-- the instants are numbered from a day before 0000-01-01 on: no onset is earlier
abbrev pub instant : ℕ → ℤ
instant k = pos k -ℤ pos (epoch + 86_400)

-- how many instants are not after t
abbrev pub natural : ℤ → ℕ
natural (pos n) = n
natural (negsuc n) = 0

abbrev pub instants_to : ℤ → ℕ
instants_to t = natural (t +ℤ pos (epoch + 86_401))

-- the observance, if it has an onset at t
abbrev pub if_onset : Option ObservanceSaid → ℤ → Option ObservanceSaid
if_onset None t = None
if_onset (Some p) t = elim (is_onset p t) [ true ↦ Some p | false ↦ None ]

-- the last and the first observance that have an onset at t
abbrev pub last_at : List ObservanceSaid → ℤ → Option ObservanceSaid
last_at zone t = last_below (length zone) (λ i. if_onset (slice_get zone i) t)

abbrev pub first_at : List ObservanceSaid → ℤ → Option ObservanceSaid
first_at zone t = first_below (length zone) (λ i. if_onset (slice_get zone i) t)

-- 9999-12-31T00:00:00 UTC
abbrev pub last_midnight : ℤ
last_midnight = midnight (before_year 10_000)

-- the observance of the greatest onset not after t, and that of the least onset. DTSTART is an onset before the last midnight
unfoldable pub in_force : List ObservanceSaid → ℤ → Option ObservanceSaid
in_force zone t = last_below (instants_to t) (λ k. last_at zone (instant k))

unfoldable pub earliest : List ObservanceSaid → Option ObservanceSaid
earliest zone = first_below (instants_to last_midnight) (λ k. first_at zone (instant k))

abbrev pub offset_by : Option ObservanceSaid → Option ObservanceSaid → ℤ
offset_by (Some now) first = now.offset_to
offset_by None (Some first) = first.offset_from
offset_by None None = pos 0

-- the offset of a zone at t, found by search; an empty zone has offset 0
unfoldable pub zone_offset : List ObservanceSaid → ℤ → ℤ
zone_offset zone t = offset_by (in_force zone t) (earliest zone)
