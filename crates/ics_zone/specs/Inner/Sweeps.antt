-- Going over spans with one offset each for the instants of many locals at once.
use Rattle.std.specs.Prelude.{◌≡◌, ℕ, ◌<◌, List, length, slice_index_or, None, ℤ, pos, ◌+ℤ◌, ◌<ℤ◌, ◌≤ℤ◌}
use Rattle.ics_zone.specs.declared.latest.Steady.{Steady}
use Rattle.ics_zone.specs.declared.sweep.Reach.{Reach}
use Rattle.ics_zone.specs.declared.walk.Seen.{Seen}
use Rattle.ics_zone.specs.declared.walk.Seen.TheVariants.{Unshown}
use Rattle.ics_zone.specs.Moments.{shown}
use Rattle.ics_zone.specs.Seconds.{IsMoment}
use Rattle.ics_zone.specs.Inner.Latest.{IsInOrder}
use Rattle.ics_zone.specs.Inner.Walks.{IsSeen, IsShort}
use Rattle.ics_zone.specs.Inner.ZoneOnsets.{IsSteady}

-- locals in order, each a day after an instant or more
pub record AreReady (from : ℤ) (locals : List ℤ) : Type 0 where
  pub in_order : IsInOrder locals
  pub late : (k : ℕ) (d : ℤ) → k < length locals → (from +ℤ pos 86_400) ≤ℤ slice_index_or locals k d
  pub moments : (k : ℕ) (d : ℤ) → k < length locals → IsMoment (slice_index_or locals k d)

-- nothing is known of so many locals
pub record AreUnseen (count : ℕ) (seen : List Seen) : Type 0 where
  pub is_long : length seen ≡ count
  pub each : (k : ℕ) (e : Seen) → k < count → slice_index_or seen k e ≡ Unshown None

-- what is known of a local before a span, and after it
abbrev pub IsToldOn : Steady → ℤ → ℤ → Seen → Seen → Type 0
IsToldOn span before local old new = (offset : ℤ → ℤ) → IsShort offset → IsSteady offset span.from span.next span.offset
    → IsSeen offset local span.from before old → IsSeen offset local span.next span.offset new

-- what spans up to an instant tell of each local, and that they show one that is not earlier than the first of the locals
pub record IsSwept (offset : ℤ → ℤ) (locals : List ℤ) (reach : Reach) (seen : List Seen) : Type 0 where
  pub past : (k : ℕ) (d : ℤ) → k < reach.past → (t : ℤ) × ((t <ℤ reach.low) × (slice_index_or locals k d ≤ℤ shown offset t))
  pub each : (k : ℕ) (d : ℤ) (e : Seen) → k < length locals
      → IsSeen offset (slice_index_or locals k d) reach.low reach.before (slice_index_or seen k e)
