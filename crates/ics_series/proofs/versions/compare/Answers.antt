use Rattle.ics_series.proofs.BeginningLemmas.{by-labels}
use Rattle.ics_series.proofs.versions.compare.Goals as goal

pub returns-in_default : goal.returns-in_default
returns-in_default c =
    by-labels c.args.a.now c.args.b.now c.cmp.result c.are_bytes.ensures c.are_bytes-2.ensures c.cmp.ensures c.in_default.not-Equal
