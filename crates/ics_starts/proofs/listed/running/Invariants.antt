use Rattle.std.proofs.Common.{◌≡◌, ◌<◌, ℕ, ℤ, ◌<ℤ◌, ◌≤ℤ◌, true, Some, slice_get}
use Rattle.ics_event.specs.Event.{Rdate}
use Rattle.ics_starts.specs.Inner.ByLocal.{place_in}
use Rattle.ics_starts.specs.Inner.ClockStretches.{AreKnown}
use Rattle.ics_starts.specs.Exclusions.{is_among}
use Rattle.ics_starts.specs.FileZones.{clocks_in}
use Rattle.ics_starts.specs.Found.{begins_at, is_running}
use Rattle.ics_starts.specs.Starts.{given_by}
use Rattle.ics_starts.proofs.listed.running.Given as goal

-- all are those of values, and those of the values at the places so far are there
abbrev pub invariant-loop-k : goal.invariant-loop-k
invariant-loop-k l = record {
  known : AreKnown (clocks_in l.zones) l.known;
  only : (t : ℤ) → l.since ≤ℤ t → t <ℤ l.from → is_among l.running.items t ≡ true → is_running (clocks_in l.zones) l.window l.event t ≡ true;
  all :
      (t : ℤ) (j : ℕ) (rdate : Rdate) → l.since ≤ℤ t → t <ℤ l.from → j < l.k → slice_get l.event.rdates (place_in l.near j) ≡ Some rdate
      → begins_at (clocks_in l.zones) l.window t (given_by l.event.start rdate) ≡ true → is_among l.running.items t ≡ true;
}
