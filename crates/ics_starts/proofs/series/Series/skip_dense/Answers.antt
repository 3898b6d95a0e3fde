use Rattle.ics_starts.proofs.SameLemmas.{both-same}
use Rattle.ics_starts.proofs.series.Series.skip_dense.Goals as goal

pub returns-then-is_dense-clause-same : goal.returns-then-is_dense-clause-same
returns-then-is_dense-clause-same c = both-same c.skip_shown.ensures.same c.skip.ensures.same
