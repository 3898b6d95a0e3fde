use Rattle.ics_text.proofs.Passed.{unread-passed}
use Rattle.ics_text.proofs.folds.folded_line.Goals as goal

pub returns-then-is_unread-clause-found : goal.returns-then-is_unread-clause-found
returns-then-is_unread-clause-found g c = λ n.
    let passed = c.pass_folds-breaks.ensures.passed in
    unread-passed (g.R.Reads.reads c.args.reader.now) n c.args.first.now passed.0 (c.is_unread.ensures c.if-is_unread.true) (passed.1 n c.args.first.now)
