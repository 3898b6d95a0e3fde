use Rattle.std.proofs.Common.{◌≡◌, ◌<◌, ◌++◌, map, drop}
use Rattle.ics_file.specs.File.{said_by}
use Rattle.ics_starts.specs.Clocks.{display_clock}
use Rattle.ics_series.specs.PlacedEvents.{IsPlaced, Placed}
use Rattle.ics_series.specs.Versions.{label_of, placed_in, seen}
use Rattle.ics_series.specs.Inner.Whole.{IsReadEvent}
use Rattle.ics_series.proofs.versions.versions.Given as goal

abbrev pub invariant-loop-number : goal.invariant-loop-number
invariant-loop-number l = record {
  labels :
      map seen l.versions.items ++ map (label_of (map said_by l.files) (display_clock l.display)) (placed_in l.number (map said_by (drop l.number l.files)))
      ≡ map (label_of (map said_by l.files) (display_clock l.display)) (placed_in 0 (map said_by l.files));
  read : (p : Placed) → p.file < l.number → IsPlaced (map said_by l.files) p → IsReadEvent p.event;
}
