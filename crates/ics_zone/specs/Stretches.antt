-- Stretches of locals that a clock shows, or skips, by one offset.
use Rattle.std.specs.Prelude.{◌≡◌, ◌<ℤ◌, ◌≤ℤ◌, ◌-ℤ◌, ℤ}
use Rattle.jiff_core.specs.Calendar.{IsWithin}
use Rattle.ics_zone.specs.declared.stretch.Stretch.{Stretch}

-- each local of the stretch means the instant that is earlier by one offset, and the clock has one offset then: the same, unless it skips the
-- local; both are less than 26 hours
pub record IsStretch (offset moment : ℤ → ℤ) (s : Stretch) : Type 0 where
  pub moments : (local : ℤ) → s.from ≤ℤ local → local <ℤ s.to → moment local ≡ local -ℤ s.offset
  pub offsets : (local : ℤ) → s.from ≤ℤ local → local <ℤ s.to → offset (local -ℤ s.offset) ≡ s.shown
  pub short : IsWithin 93_599 s.offset
  pub shown_short : IsWithin 93_599 s.shown
