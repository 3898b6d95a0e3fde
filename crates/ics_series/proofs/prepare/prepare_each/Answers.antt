use Rattle.std.proofs.Common.{ap, ◌∙◌, slice_set}
use Rattle.std.proofs.lemmas.List.{set-get_or}
use Rattle.ics_series.proofs.prepare.prepare_each.Goals as goal

pub loop-k-preserved : goal.loop-k-preserved
loop-k-preserved c =
    ap (slice_set c.loop-k.files c.loop-k.k) c.prepare_file.ensures ∙ (set-get_or c.loop-k.files c.loop-k.k c.index-files-k.result ∙ c.loop-k.invariant)
