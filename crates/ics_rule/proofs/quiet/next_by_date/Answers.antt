use Rattle.std.proofs.Common.{arith}
use Rattle.ics_rule.specs.Inner.Quiet.{NoneChosen}
use Rattle.ics_rule.proofs.QuietLemmas.{closed, joined}
use Rattle.ics_rule.proofs.quiet.next_by_date.Goals as goal
use Rattle.ics_rule.proofs.quiet.next_by_date.Goals.{After-next_allowed-open}

-- nothing is chosen before the first that may be allowed
opened : (c : After-next_allowed-open)
    → NoneChosen c.args.search.now.parts.now c.args.search.now.start c.args.from c.next_allowed-open.result
opened c = joined c.args.search.now.parts.now c.args.search.now.start c.loop-steps.at c.loop-steps.invariant.none
    (closed c.args.search.now.parts.now c.args.search.now.start c.next_allowed-open.ensures.none)

pub returns-then-open-ge-RULES_END-clause-none : goal.returns-then-open-ge-RULES_END-clause-none
returns-then-open-ge-RULES_END-clause-none c = opened (goal.at.returns-then-open-ge-RULES_END-clause-none c).After-next_allowed-open

pub returns-then-begin-open-clause-none : goal.returns-then-begin-open-clause-none
returns-then-begin-open-clause-none c = joined c.args.search.now.parts.now c.args.search.now.start c.next_allowed-open.result
    (opened (goal.at.returns-then-begin-open-clause-none c).After-next_allowed-open)
    (closed c.args.search.now.parts.now c.args.search.now.start c.time_from.ensures.none)

pub loop-steps-preserved : goal.loop-steps-preserved
loop-steps-preserved c = record {
  none = joined c.args.search.now.parts.now c.args.search.now.start c.next_allowed-open.result
      (opened (goal.at.loop-steps-preserved c).After-next_allowed-open) c.begin_of_step-begin.ensures.none;
  inside = omega (arith, c.begin_of_step-begin.ensures.inside);
}
