-- The clocks by which the times of a file are read.
use Rattle.std.specs.Prelude.{ℤ, List}
use Rattle.ics_values.specs.declared.stamp.Stamp.{Stamp}
use Rattle.ics_values.specs.declared.stamp.Stamp.TheVariants.{Date, Floating, Utc, Zoned}

-- what a zone gives: the instant of each local, and the offset at each instant
pub record Clock : Type 0 where
  pub moment : ℤ → ℤ
  pub offset : ℤ → ℤ

-- the clocks by which the times of a file are read: that of the display zone, and those of the file's own zones
pub record Clocks : Type 0 where
  pub display : Clock
  pub zones : List Clock

-- the day of a stamp
abbrev pub day_of : Stamp → ℤ
day_of (Date day) = day
day_of (Floating local) = local.day
day_of (Utc local) = local.day
day_of (Zoned local) = local.day
