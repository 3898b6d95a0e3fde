use Rattle.std.proofs.Common.{◌≡◌, ◌≤ℤ◌, ◌-ℤ◌, drop}
use Rattle.ics_starts.specs.Found.{earliest, earliest_from}
use Rattle.ics_starts.specs.FileZones.{clocks_in}
use Rattle.ics_listing.specs.WindowBounds.{lasts_most, occurrence_first}
use Rattle.ics_starts.proofs.starts.earliest.Given as goal

-- with the starts from this one on it is the earliest that counts
abbrev pub invariant-loop-start : goal.invariant-loop-start
invariant-loop-start l = record {
  rest : earliest_from (clocks_in l.zones) l.window l.event l.earliest (drop l.start-index l.starts) ≡ earliest (clocks_in l.zones) l.window l.event l.starts;
  late : (occurrence_first -ℤ lasts_most) ≤ℤ l.earliest;
  early : l.earliest ≤ℤ l.window.to;
}
