use Rattle.std.proofs.Common.{◌≡◌, ◌∙◌, ap, sym}
use Rattle.ics_fields.specs.Locals.{number}
use Rattle.ics_fields.specs.RuleParts.{RuleParts}
use Rattle.ics_period.specs.Candidates.{period_in}
use Rattle.ics_period.specs.EffectiveRules.{effective, effective_at}
use Rattle.ics_rule.specs.Inner.Given.{given_of, parts_of}
use Rattle.ics_period.specs.declared.effective_rule.EffectiveRule.{EffectiveRule}
use Rattle.ics_rule.proofs.rule.Rule.new.Goals as goal
use Rattle.ics_rule.proofs.rule.Rule.new.Goals.{After-period_of-first}

whole : (c : After-period_of-first) → c.fill-whole.result ≡ effective_at c.args.parts c.args.kind (number c.args.start)
whole c = c.fill-whole.ensures.value ∙ ap (effective_at c.args.parts c.args.kind) c.number-number.ensures.value

-- the parts are got back from what a rule searches by and what is kept beside it
parts : (c : After-period_of-first) → parts_of c.fill-whole.result c.of-given.result ≡ c.args.parts
parts c = ap (λ (q : EffectiveRule). parts_of q c.of-given.result) (whole c) ∙ c.of-given.ensures.back c.args.kind (number c.args.start)

pub invariant_of-result : goal.invariant_of-result
unfolding effective
invariant_of-result c =
    let at = (goal.at.invariant_of-result c).After-period_of-first in (
      whole at ∙ ap (λ (p : RuleParts). effective_at p c.args.kind (number c.args.start)) (sym (parts at)),
      (
        c.requires,
        c.fill-whole.ensures.interval,
        c.of-given.ensures.count,
        c.of-given.ensures.until,
        c.of-given.ensures.value ∙ ap given_of (sym (parts at)),
        c.period_of-first.ensures.value ∙ ap (period_in c.fill-whole.result) c.number-number.ensures.value,
        c.period_of-first.ensures.small,
      ),
    )

pub returns : goal.returns
returns c = λ i. record { parts = parts (goal.at.returns c).After-period_of-first i; start = c.args.start; kind = c.args.kind }
