use Rattle.std.proofs.Common.{◌≡◌, ◌++◌, map, drop}
use Rattle.ics_file.specs.File.{said_by}
use Rattle.ics_starts.specs.Clocks.{display_clock}
use Rattle.ics_series.specs.Inner.Spans.{span_at}
use Rattle.ics_series.specs.Versions.{seen}
use Rattle.ics_series.proofs.span.spans.Given as goal

-- with those of the versions from this one on they are all
abbrev pub invariant-loop-version : goal.invariant-loop-version
invariant-loop-version l =
    let own = span_at (map said_by l.files) (display_clock l.display) l.window in
    l.spans.items ++ map own (map seen (drop l.version-index l.chosen)) ≡ map own (map seen l.chosen)
