use Rattle.std.proofs.Common.{◌≡◌, ◌≤◌, length}
use Rattle.ics_starts.specs.SeriesFeed.{series_left, series_of, IsSameSeries}
use Rattle.ics_starts.specs.SeriesStarts.{rule_steps}
use Rattle.ics_starts.proofs.series.Series.peek.Given as goal

-- what was passed over gives nothing
abbrev pub invariant-loop-self : goal.invariant-loop-self
invariant-loop-self l = record {
  coming : series_of l.self (series_left l.self) ≡ series_of l.initial.self (series_left l.initial.self);
  fewer : length (series_left l.self) ≤ length (series_left l.initial.self);
  same : IsSameSeries l.initial.self l.self;
}

abbrev pub decreases-loop-self : goal.decreases-loop-self
decreases-loop-self l = rule_steps l.self.rule_starts
