-- Two offsets between which a clock stays.
use Rattle.std.specs.Prelude.{ℤ, ◌-ℤ◌}
use Rattle.jiff_core.specs.Calendar.{IsBetween, IsWithin}

-- Each offset of the clock lies between these, and each local means an instant that is read by one of them, or by one between them. They are less
-- than 26 hours.
pub record HasBounds (offset moment : ℤ → ℤ) (least most : ℤ) : Type 0 where
  pub offsets : (t : ℤ) → IsBetween least most (offset t)
  pub moments : (local : ℤ) → IsBetween (local -ℤ most) (local -ℤ least) (moment local)
  pub least_short : IsWithin 93_599 least
  pub most_short : IsWithin 93_599 most
