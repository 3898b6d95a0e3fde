-- The instant that a local means on a clock with changing offsets (RFC 5545, section 3.3.5).
use Rattle.std.specs.Prelude.{◌≡◌, ◌≢◌, ℕ, ◌+◌, ◌*◌, ◌⊎◌, Bool, true, false, List, Option, Some, None, int_lt, ℤ, pos, ◌+ℤ◌, ◌-ℤ◌, ◌<ℤ◌, ◌≤ℤ◌}
use Rattle.std.specs.Ordering.{int_eq}
use Rattle.ics_zone.specs.Observances.{ObservanceSaid}
use Rattle.ics_zone.specs.ZoneOffsets.{first_below, zone_offset}

-- what a clock shows at t, given its offset at each instant
abbrev pub shown : (ℤ → ℤ) → ℤ → ℤ
shown offset t = t +ℤ offset t

-- t is the first instant at which the clock shows a local
pub record IsFirstTime (offset : ℤ → ℤ) (local t : ℤ) : Type 0 where
  pub shows : shown offset t ≡ local
  pub first : (s : ℤ) → shown offset s ≡ local → t ≤ℤ s

-- the clock never shows the local; `past` is the first instant at which it shows a later one, and t is the local read with the offset
-- just before that
pub record IsInGap (offset : ℤ → ℤ) (local t : ℤ) : Type 0 where
  pub skipped : (s : ℤ) → shown offset s ≢ local
  pub past : ℤ
  pub is_later : local <ℤ shown offset past
  pub first : (s : ℤ) → local <ℤ shown offset s → past ≤ℤ s
  pub before : t ≡ local -ℤ offset (past -ℤ pos 1)

-- the instant that a local means
abbrev pub IsMomentBy : (ℤ → ℤ) → ℤ → ℤ → Type 0
IsMomentBy offset local t = IsFirstTime offset local t ⊎ IsInGap offset local t

abbrev pub IsMomentOf : List ObservanceSaid → ℤ → ℤ → Type 0
IsMomentOf zone local t = IsMomentBy (zone_offset zone) local t

-- the instants from a day before the local's seconds in UTC on
abbrev pub near : ℤ → ℕ → ℤ
near local k = local -ℤ pos 86_400 +ℤ pos k

abbrev pub if_so : Bool → ℤ → Option ℤ
if_so true t = Some t
if_so false t = None

-- how many instants are within a day of one
abbrev pub within_a_day : ℕ
within_a_day = 2 * 86_400 + 1

-- the first instant within a day of the local that shows it, and the first that shows a later one
abbrev pub first_time : (ℤ → ℤ) → ℤ → Option ℤ
first_time offset local = first_below within_a_day (λ k. if_so (int_eq (shown offset (near local k)) local) (near local k))

abbrev pub first_later : (ℤ → ℤ) → ℤ → Option ℤ
first_later offset local = first_below within_a_day (λ k. if_so (int_lt local (shown offset (near local k))) (near local k))

abbrev pub moment_from : (ℤ → ℤ) → ℤ → Option ℤ → Option ℤ → ℤ
moment_from offset local (Some t) later = t
moment_from offset local None (Some past) = local -ℤ offset (past -ℤ pos 1)
moment_from offset local None None = local

-- the instant that a local means, found by search
unfoldable pub moment_by : (ℤ → ℤ) → ℤ → ℤ
moment_by offset local = moment_from offset local (first_time offset local) (first_later offset local)

abbrev pub zone_moment : List ObservanceSaid → ℤ → ℤ
zone_moment zone local = moment_by (zone_offset zone) local
