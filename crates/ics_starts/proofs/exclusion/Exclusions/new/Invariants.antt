use Rattle.std.proofs.Common.{◌≡◌, ◌<◌, ℕ, ℤ, ◌<ℤ◌, slice_get, true, Some}
use Rattle.ics_event.specs.Event.{Time}
use Rattle.ics_starts.specs.Clocks.{clock_of}
use Rattle.ics_starts.specs.Inner.ByLocal.{place_in}
use Rattle.ics_starts.specs.Inner.ClockStretches.{AreKnown}
use Rattle.ics_starts.specs.Exclusions.{excludes, is_excluded, is_known, takes_out}
use Rattle.ics_starts.specs.FileZones.{clocks_in}
use Rattle.ics_starts.proofs.exclusion.Exclusions.new.Given as goal

-- what the EXDATEs at the places before this one take out is taken out, and nothing that none takes out
abbrev pub invariant-loop-k : goal.invariant-loop-k
invariant-loop-k l = record {
  known : AreKnown (clocks_in l.zones) l.known;
  only :
      (t : ℤ) → takes_out (clock_of (clocks_in l.zones) l.event.start) l.instants.items l.days.items t ≡ true
      → is_excluded (clocks_in l.zones) l.event t ≡ true;
  seen :
      (j : ℕ) (exdate : Time) → j < l.k → slice_get l.event.exdates (place_in l.near j) ≡ Some exdate → (t : ℤ) → is_known l.from l.running.items t ≡ true
      → t <ℤ l.window.to → excludes (clocks_in l.zones) l.event.start exdate t ≡ true
      → takes_out (clock_of (clocks_in l.zones) l.event.start) l.instants.items l.days.items t ≡ true;
}
