use Rattle.std.proofs.Common.{◌≡◌, subst, not}
use Rattle.ics_values.specs.declared.part_name.PartName.TheVariants as part
use Rattle.ics_fields.specs.RuleParts.{RuleParts}
use Rattle.ics_values.specs.RuleTexts.{has_part, parts_of}
use Rattle.ics_values.specs.RuleLaws.{lists_nothing}
use Rattle.ics_values.proofs.RuleSays.{of_rule, absent}
use Rattle.ics_values.proofs.rule_law.absent_is_empty.Goals as goal

pub returns : goal.returns
returns c = λ text rule h list. let r = of_rule text rule h in
    subst (λ (x : RuleParts). lists_nothing list x ≡ not (has_part (part.List list) (parts_of text))) r.1 (absent (parts_of text) r.0 list)
