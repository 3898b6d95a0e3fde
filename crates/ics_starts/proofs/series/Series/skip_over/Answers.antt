use Rattle.ics_starts.proofs.series.Series.skip_over.Goals as goal

pub pass_over-requires-clause-lasting : goal.pass_over-requires-clause-lasting
pass_over-requires-clause-lasting c = rw c.in-Some.is at c.lasting_by.ensures.lasting
