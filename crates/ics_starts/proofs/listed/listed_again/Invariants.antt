use Rattle.std.proofs.Common.{◌≡◌, ◌<◌, ℕ, Some, slice_get}
use Rattle.ics_event.specs.Event.{Rdate}
use Rattle.ics_starts.specs.FileZones.{clocks_in}
use Rattle.ics_starts.specs.Inner.ByLocal.{place_in}
use Rattle.ics_starts.specs.Quiet.{IsAgain}
use Rattle.ics_starts.specs.Starts.{given_by}
use Rattle.ics_listing.specs.StartTimes.{time_of}
use Rattle.ics_starts.proofs.listed.listed_again.Given as goal

-- neither DTSTART nor an RDATE at a place so far gives a start before the least
abbrev pub invariant-loop-k : goal.invariant-loop-k
invariant-loop-k l = record {
  start : IsAgain (clocks_in l.zones) l.from l.least l.event.start;
  each :
      (j : ℕ) (rdate : Rdate) → j < l.k → slice_get l.event.rdates (place_in l.near j) ≡ Some rdate
      → IsAgain (clocks_in l.zones) l.from l.least (time_of (given_by l.event.start rdate));
}
