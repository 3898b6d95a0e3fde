use Rattle.std.proofs.lemmas.Grind.{common_steps}
use Rattle.std.proofs.Common.{refl, arith}
use Rattle.std.proofs.lemmas.Option.{slice_get_read}
use Rattle.ics_series.proofs.VersionLemmas.{stands}
use Rattle.ics_series.proofs.span.spans.Goals as goal

pub span_at-requires : goal.span_at-requires
span_at-requires c =
    stands c.loop-version.version-index c.requires
    (slice_get_read c.args.chosen.now _ c.loop-version.version-index c.version-item.result refl c.loop-version-test.true c.version-item.is)

pub loop-version-preserved : goal.loop-version-preserved
loop-version-preserved c = grind (arith, common_steps)

pub returns : goal.returns
returns c = grind (arith, common_steps)
