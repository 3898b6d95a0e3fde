use Rattle.std.proofs.Common.{◌≡◌, ℕ, ◌<◌, ◌++◌, Some, map, drop, slice_get}
use Rattle.ics_event.specs.declared.event.Event.{Event}
use Rattle.ics_series.specs.Versions.{label_by, placed_from, seen}
use Rattle.ics_starts.specs.FileZones.{clocks_in}
use Rattle.ics_series.specs.Inner.Whole.{IsReadEvent}
use Rattle.ics_series.proofs.versions.push_versions.Given as goal

abbrev pub invariant-loop-place : goal.invariant-loop-place
invariant-loop-place l = record {
  labels :
      map seen l.versions.items ++ map (label_by (clocks_in l.zones)) (placed_from l.file l.place (drop l.place l.events))
      ≡ map seen l.initial.versions.items ++ map (label_by (clocks_in l.zones)) (placed_from l.file 0 l.events);
  read : (place : ℕ) (event : Event) → place < l.place → slice_get l.events place ≡ Some event → IsReadEvent event;
}
