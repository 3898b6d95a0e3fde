use Rattle.std.proofs.Common.{◌∙◌, arith}
use Rattle.ics_starts.proofs.SameLemmas.{both-same}
use Rattle.ics_starts.proofs.series.Series.skip.Goals as goal

pub returns : goal.returns
returns c = record {
  coming = c.skip_removed.ensures.coming ∙ (c.skip_over.ensures.coming ∙ c.skip_ended.ensures.coming);
  fewer = omega (arith, c.skip_removed.ensures.fewer, c.skip_over.ensures.fewer, c.skip_ended.ensures.fewer);
  same = both-same c.skip_ended.ensures.same (both-same c.skip_over.ensures.same c.skip_removed.ensures.same);
  steps = omega (arith, c.skip_removed.ensures.steps, c.skip_over.ensures.steps, c.skip_ended.ensures.steps);
}
