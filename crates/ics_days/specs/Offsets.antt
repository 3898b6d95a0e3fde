-- Two offsets that bound others.
use Rattle.std.specs.Prelude.{◌≤ℤ◌}
use Rattle.ics_zone.specs.Seconds.{IsNear}
use Rattle.ics_zone.specs.declared.bounds.Bounds.{Bounds}

-- they are less than two days, the lesser first
pub record AreOffsets (b : Bounds) : Type 0 where
  pub ordered : b.least ≤ℤ b.most
  pub least_short : IsNear b.least
  pub most_short : IsNear b.most
