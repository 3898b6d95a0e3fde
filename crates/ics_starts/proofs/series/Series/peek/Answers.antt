use Rattle.std.proofs.Common.{◌∙◌, length, ap, arith}
use Rattle.ics_listing.specs.KnownStarts.{listed_left}
use Rattle.ics_starts.specs.SeriesStarts.{rule_left}
use Rattle.ics_starts.proofs.SameLemmas.{both-same, same-coming}
use Rattle.ics_starts.proofs.SeriesLemmas.{rises-listed, rises-rule}
use Rattle.ics_starts.proofs.series.Series.peek.Goals as goal

pub returns-in_err-read_next-clause-same : goal.returns-in_err-read_next-clause-same
returns-in_err-read_next-clause-same c = both-same c.loop-self.invariant.same c.read_next.ensures.same

pub loop-self-preserved : goal.loop-self-preserved
loop-self-preserved c = record {
  coming = c.skip_dense.ensures.coming
      ∙ (same-coming c.loop-self.self c.read_next.new.self c.read_next.ensures.same c.read_next.ensures.left ∙ c.loop-self.invariant.coming);
  fewer = omega (arith, ap length c.read_next.ensures.left, c.skip_dense.ensures.fewer, c.loop-self.invariant.fewer);
  same = both-same c.loop-self.invariant.same (both-same c.read_next.ensures.same c.skip_dense.ensures.same);
}

pub returns-clause-same : goal.returns-clause-same
returns-clause-same c = both-same c.loop-self.invariant.same c.read_next.ensures.same

pub returns-clause-first : goal.returns-clause-first
returns-clause-first c =
    let s = c.read_next.new.self in
    c.earlier_of.ensures (rule_left s.rule_starts) (listed_left s.listed) (rises-rule s.rule_starts) (rises-listed s.listed)
    c.first_of_rule-ruled.ensures c.peek.ensures
