use Rattle.std.proofs.Common.{◌≤◌, Some, ap, sym, subst, ◌∙◌, arith}
use Rattle.std.proofs.lemmas.Bool.{le-leb}
use Rattle.ics_fields.specs.declared.until.Until.{Until}
use Rattle.ics_values.specs.Stamps.{year_of}
use Rattle.ics_fields.specs.RuleParts.{IsUntil}
use Rattle.ics_values.specs.RuleTexts.{until_said}
use Rattle.ics_values.proofs.StampLemmas.{until_in}
use Rattle.ics_values.proofs.rule_value.read_until.Goals as goal

pub returns-clause-value : goal.returns-clause-value
returns-clause-value c =
    let year : 1 ≤ year_of c.args.text.now = omega arith in
    rw (c.in_ok-stamp.ensures.value.0, le-leb 1 (year_of c.args.text.now) year)
    (ap (λ (u : Until). Some u) (c.until_said.ensures ∙ ap until_said c.in_ok-stamp.ensures.value.1))

pub returns-clause-day : goal.returns-clause-day
returns-clause-day c =
    let text = c.args.text.now in
    let year : year_of text ≤ 9999 = omega arith in
    let said = c.until_said.ensures ∙ ap until_said c.in_ok-stamp.ensures.value.1 in
    subst IsUntil (sym said) (until_in text c.in_ok-stamp.ensures.value.0 year)
