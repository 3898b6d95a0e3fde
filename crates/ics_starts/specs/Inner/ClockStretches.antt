-- Stretches of clocks that are known.
use Rattle.std.specs.Prelude.{IfSome}
use Rattle.ics_listing.specs.FileClocks.{Clocks}
use Rattle.ics_starts.specs.Clocks.{clock_of, IsStretched}
use Rattle.ics_starts.specs.declared.clock_stretch.ClockStretch.{ClockStretch}
use Rattle.ics_starts.specs.declared.clock_stretch.ClockStretches.{ClockStretches}
use Rattle.ics_starts.specs.declared.clock_stretch.LastStretches.{LastStretches}

-- a stretch of the clock by which its time is read
abbrev pub IsStretchOf : Clocks → ClockStretch → Type 0
IsStretchOf clocks s = IsStretched (clock_of clocks s.time) s.stretch

-- both are such stretches
pub record AreStretches (clocks : Clocks) (known : LastStretches) : Type 0 where
  pub last : IsStretchOf clocks known.last
  pub other : IsStretchOf clocks known.other

-- what is known of clocks, if anything is
abbrev pub AreKnown : Clocks → ClockStretches → Type 0
AreKnown clocks known = IfSome known.last (AreStretches clocks)
