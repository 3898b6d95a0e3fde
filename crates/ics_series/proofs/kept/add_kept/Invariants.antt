use Rattle.ics_file.specs.File.{FileSaid}
use Rattle.ics_listing.specs.FileClocks.{Clock}
use Rattle.std.specs.Prelude.{List}
use Rattle.ics_series.specs.Inner.Kept.{AreKept}
use Rattle.ics_series.proofs.kept.add_kept.Given as goal

abbrev pub invariant-loop-place : goal.invariant-loop-place
invariant-loop-place l = (files : List FileSaid) (display : Clock) → AreKept files display l.initial.kept.items → AreKept files display l.kept.items
