use Rattle.std.specs.Prelude.{◌≤ℤ◌, ◌-◌, drop, length}
use Rattle.ics_listing.specs.KnownStarts.{listed_left}
use Rattle.ics_listing.specs.Listing.{IsIn}
use Rattle.ics_listing.specs.declared.start.Start.{Start}
use Rattle.ics_listing.proofs.listed_starts.ListedStarts.from.Given as goal

-- what is not before the instant stands from the place on
abbrev pub invariant-loop-at : goal.invariant-loop-at
invariant-loop-at l = (start : Start) → IsIn start (listed_left l.self) → l.moment ≤ℤ start.moment → IsIn start (drop l.at l.self.starts.items)

abbrev pub decreases-loop-at : goal.decreases-loop-at
decreases-loop-at l = length l.self.starts.items - l.at
