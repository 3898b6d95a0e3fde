use Rattle.std.proofs.Common.{◌≡◌, ◌++◌, ◌<◌, ◌≤◌, ℕ, drop, length}
use Rattle.ics_starts.specs.Inner.ByLocal.{place_in}
use Rattle.ics_starts.specs.Inner.ClockStretches.{AreKnown}
use Rattle.ics_starts.specs.Found.{listed_from}
use Rattle.ics_starts.specs.FileZones.{clocks_in}
use Rattle.ics_starts.proofs.listed.push_at.Given as goal

-- what the values from the next place on give is still to be added, and the places so far are before that
abbrev pub invariant-loop-k : goal.invariant-loop-k
invariant-loop-k l = record {
  known : AreKnown (clocks_in l.zones) l.known;
  within : l.next ≤ length l.event.rdates;
  passed : (j : ℕ) → j < l.k → place_in l.near j < l.next;
  starts :
      l.starts.items ++ listed_from (clocks_in l.zones) l.window l.since l.from l.event l.next (drop l.next l.event.rdates)
      ≡ l.initial.starts.items ++ listed_from (clocks_in l.zones) l.window l.since l.from l.event 0 l.event.rdates;
}
