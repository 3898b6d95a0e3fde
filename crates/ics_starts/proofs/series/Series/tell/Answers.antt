use Rattle.ics_starts.proofs.EndedLemmas.{own-stretch}
use Rattle.ics_starts.proofs.SameLemmas.{itself-same}
use Rattle.ics_starts.proofs.series.Series.tell.Goals as goal

pub returns-then-start-self-clause-same : goal.returns-then-start-self-clause-same
returns-then-start-self-clause-same c = itself-same c.args.self.now

pub end-requires-clause-shown : goal.end-requires-clause-shown
end-requires-clause-shown c = own-stretch c.args.self.now c.shown_at-shown.result c.shown_at-shown.ensures
