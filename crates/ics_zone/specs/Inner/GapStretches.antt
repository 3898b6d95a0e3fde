-- The locals that a clock skips from one on, by spans with one offset each, in their order.
use Rattle.std.specs.Prelude.{◌≡◌, ◌≢◌, ℤ, pos, ◌-ℤ◌, ◌<ℤ◌, ◌≤ℤ◌}
use Rattle.ics_zone.specs.declared.gap_stretch.Jump.{Jump}
use Rattle.ics_zone.specs.declared.latest.Steady.{Steady}
use Rattle.ics_zone.specs.declared.stretch.Stretch.{Stretch}
use Rattle.ics_zone.specs.Moments.{shown}
use Rattle.ics_zone.specs.Inner.ZoneOnsets.{IsJump, IsSteady}

-- no instant shows a local of a stretch
abbrev pub AreUnshown : (ℤ → ℤ) → Stretch → Type 0
AreUnshown offset s = (local t : ℤ) → s.from ≤ℤ local → local <ℤ s.to → shown offset t ≢ local

-- the clock has one offset in a span, and before it shows no later local than one
pub record IsUnpassed (offset : ℤ → ℤ) (local : ℤ) (span : Steady) : Type 0 where
  pub steady : IsSteady offset span.from span.next span.offset
  pub earlier : (t : ℤ) → t <ℤ span.from → shown offset t ≤ℤ local

-- the first instant at which the clock shows a later local, with the offset just before that and the one then
pub record IsJumpRead (offset : ℤ → ℤ) (local : ℤ) (read : Jump) : Type 0 where
  pub jump : IsJump offset local read.at
  pub before : read.before ≡ offset (read.at -ℤ pos 1)
  pub after : read.offset ≡ offset read.at
