use Rattle.std.proofs.Common.{◌∙◌, ap}
use Rattle.ics_period.specs.EffectiveRules.{effective_at}
use Rattle.ics_rule.specs.Inner.Given.{parts_of}
use Rattle.ics_rule.specs.declared.given.Given.{Given}
use Rattle.ics_rule.proofs.GivenLemmas.{kept-given, parts-given}
use Rattle.ics_rule.proofs.given.Given.of.Goals as goal

pub returns-clause-value : goal.returns-clause-value
returns-clause-value c = kept-given c.parts.view_is c.takes_month.ensures c.takes_month_day.ensures c.takes_weekday.ensures.value

pub returns-clause-count : goal.returns-clause-count
returns-clause-count c = c.parts.invariant.count

pub returns-clause-until : goal.returns-clause-until
returns-clause-until c = c.parts.invariant.until

pub returns-clause-back : goal.returns-clause-back
returns-clause-back c = λ kind n.
    let p = c.args.parts.now in
    let kept = kept-given c.parts.view_is c.takes_month.ensures c.takes_month_day.ensures c.takes_weekday.ensures.value in
    ap (λ (g : Given). parts_of (effective_at p kind n) g) kept
    ∙ parts-given p kind n (λ takes. c.takes_weekday.ensures.empty (c.takes_weekday.ensures.value ∙ takes))
