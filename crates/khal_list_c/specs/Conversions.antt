-- Locals as instants of a zone, and instants as locals.
use Rattle.std.specs.Prelude.{◌≡◌, ℕ, ℤ, pos, ◌+ℤ◌, ◌≤ℤ◌, ◌<◌, ◌≤◌, ◌==◌, min, List, length, map, take, slice_get, Some, unsigned_abs, if◌then◌else◌}
use Rattle.ics_fields.specs.Locals.{year_seconds}
use Rattle.ics_period.specs.PeriodNumbers.{rules_end}
use Rattle.ics_zone.specs.ZoneSaid.{ZoneSaid, said_offset}
use Rattle.khal_list_c.specs.Clocks.{epoch, zone_by}

-- the local that a zone's clock shows at an instant
abbrev pub local_in : ZoneSaid → ℤ → ℕ
local_in zone t = unsigned_abs (t +ℤ said_offset zone t +ℤ pos epoch)

-- locals and instants that are converted: locals of the years 0000 to 9800, and instants from 0001-01-01 to 9801-01-01
abbrev pub IsLocal : ℕ → Type 0
IsLocal n = n < rules_end

abbrev pub IsInstant : ℤ → Type 0
IsInstant t = (year_seconds 1 ≤ℤ t) × (t ≤ℤ year_seconds 9_801)

-- The first `count` answers are those to the first `count` that are asked, and these are of the kind that is converted. Of the shorter list all are
-- answered, or the next one is not of that kind.
pub record Converts {A B : Type 0} (f : A → B) (Is : A → Type 0) (asked : List A) (answers : List B) (count : ℕ) : Type 0 where
  pub room : count ≤ min (length asked) (length answers)
  pub each : take count answers ≡ map f (take count asked)
  pub kind : (n : ℕ) → n < count → (a : A) → slice_get asked n ≡ Some a → Is a
  pub all : count < min (length asked) (length answers) → (a : A) × (slice_get asked count ≡ Some a) × (¬ Is a)

-- the bytes are of a zone that converts them so, and the fault is 4 if one is out of bounds
pub record ConvertsBy {A B : Type 0} (f : ZoneSaid → A → B) (Is : A → Type 0) (zone : List ℕ) (asked : List A) (answers : List B) (count fault : ℕ) :
    Type 0 where
  pub said : ZoneSaid
  pub says : zone_by zone ≡ Some said
  pub converts : Converts (f said) Is asked answers count
  pub fault_is : fault ≡ (if count == min (length asked) (length answers) then 0 else 4)
