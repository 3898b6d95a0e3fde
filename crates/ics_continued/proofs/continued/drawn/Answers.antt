use Rattle.ics_starts.proofs.SeriesLemmas.{series-near}
use Rattle.ics_continued.proofs.continued.drawn.Goals as goal

pub returns-in-Some-clause-near : goal.returns-in-Some-clause-near
returns-in-Some-clause-near c = series-near c.args.series.now
