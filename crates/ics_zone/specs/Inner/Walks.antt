-- A walk over spans with one offset each, in their order, for the instant that a local means.
use Rattle.std.specs.Prelude.{◌≡◌, ◌≢◌, MatchOption, ℤ, pos, ◌-ℤ◌, ◌<ℤ◌}
use Rattle.jiff_core.specs.Calendar.{IsWithin}
use Rattle.ics_zone.specs.declared.walk.Walk.{Walk}
use Rattle.ics_zone.specs.declared.walk.Seen.{Seen}
use Rattle.ics_zone.specs.declared.walk.Seen.TheVariants.{Shown, Unshown}
use Rattle.ics_zone.specs.declared.walk.Told.{Told}
use Rattle.ics_zone.specs.declared.walk.Told.TheVariants.{Shows, On, Out}
use Rattle.ics_zone.specs.Moments.{shown, IsFirstTime}
use Rattle.ics_zone.specs.Inner.ZoneOnsets.{IsJump}

-- each offset is less than a day
abbrev pub IsShort : (ℤ → ℤ) → Type 0
IsShort offset = (t : ℤ) → IsWithin 86_399 (offset t)

-- the clock jumps over a local, which t reads with the offset before the jump
abbrev pub IsGapRead : (ℤ → ℤ) → ℤ → ℤ → Type 0
IsGapRead offset local t = (past : ℤ) × (IsJump offset local past × (t ≡ local -ℤ offset (past -ℤ pos 1)))

-- no instant before `low` shows a local, `before` is the offset just before that, and the gap is known if an instant before it shows a later local
pub record IsWalk (offset : ℤ → ℤ) (local : ℤ) (walk : Walk) : Type 0 where
  pub unseen : (t : ℤ) → t <ℤ walk.low → shown offset t ≢ local
  pub before : (local -ℤ pos 86_400) <ℤ walk.low → walk.before ≡ offset (walk.low -ℤ pos 1)
  pub gap : MatchOption walk.gap ((t : ℤ) → t <ℤ walk.low → shown offset t <ℤ local) (IsGapRead offset local)

-- a span shows the local first, or the walk goes on after it, or nothing is told
abbrev pub IsTold : (ℤ → ℤ) → ℤ → Told → Type 0
IsTold offset local (Shows t) = IsFirstTime offset local t
IsTold offset local (On walk) = IsWalk offset local walk
IsTold offset local Out = Unit {0}

-- the first instant that shows a local, or as a walk up to an instant has it, with the offset just before that
abbrev pub IsSeen : (ℤ → ℤ) → ℤ → ℤ → ℤ → Seen → Type 0
IsSeen offset local low before (Shown t) = IsFirstTime offset local t
IsSeen offset local low before (Unshown gap) = IsWalk offset local (record { low = low; before = before; gap = gap })
