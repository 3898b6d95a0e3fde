use Rattle.std.proofs.Common.{◌≡◌, length}
use Rattle.ics_starts.specs.SeriesFeed.{series_left, series_of, series_sources}
use Rattle.ics_starts.proofs.series.SeriesFeed.next.Given as goal

-- what is wanted of the starts that were taken was given
abbrev pub invariant-loop-start : goal.invariant-loop-start
invariant-loop-start l = record {
  coming : series_of l.self (series_left l.self) ≡ series_of l.initial.self (series_left l.initial.self);
  sources : series_sources l.self ≡ series_sources l.initial.self;
}

abbrev pub decreases-loop-start : goal.decreases-loop-start
decreases-loop-start l = length (series_left l.self)
