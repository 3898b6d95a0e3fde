use Rattle.std.proofs.Common.{refl}
use Rattle.std.proofs.lemmas.Option.{slice_get_read}
use Rattle.ics_starts.proofs.FindLemmas.{find-in}
use Rattle.ics_starts.proofs.kept_locals.append.Goals as goal

pub loop-at-preserved : goal.loop-at-preserved
loop-at-preserved c = λ rule are more.
    c.note.ensures rule (c.loop-at.invariant rule are more)
    (find-in rule c.args.more.now c.loop-at.at c.index-more-at.result more
    (slice_get_read c.args.more.now _ c.loop-at.at c.index-more-at.result refl c.loop-at-test.true c.index-more-at.is))
