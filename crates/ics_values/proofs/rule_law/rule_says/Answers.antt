use Rattle.std.proofs.Common.{subst}
use Rattle.ics_fields.specs.RuleParts.{RuleParts}
use Rattle.ics_values.specs.RuleTexts.{parts_of}
use Rattle.ics_values.specs.RuleLaws.{Says}
use Rattle.ics_values.proofs.RuleSays.{says, of_rule}
use Rattle.ics_values.proofs.rule_law.rule_says.Goals as goal

pub returns : goal.returns
returns c = λ text rule h. let r = of_rule text rule h in subst (λ (x : RuleParts). Says (parts_of text) x) r.1 (says (parts_of text) r.0)
