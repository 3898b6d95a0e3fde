use Rattle.std.proofs.Common.{◌≡◌, List, ℕ, None, ap, ◌∙◌, inl, inr, refl, rules, option_map}
use Rattle.std.specs.List.{list_all}
use Rattle.std.proofs.lemmas.Bool.{cases_Bool}
use Rattle.ics_fields.specs.RuleParts.{RuleParts}
use Rattle.ics_values.specs.declared.part_name.ListName.{ListName}
use Rattle.ics_values.specs.declared.part_name.PartName.TheVariants as part
use Rattle.ics_values.specs.RuleTexts.{fits_list, pieces}
use Rattle.ics_values.specs.Inner.RuleDrafts.{walk, item_taken, value_taken}
use Rattle.ics_values.specs.declared.rule_text.Draft.{Draft}
use Rattle.ics_values.proofs.RuleLemmas.{walk-items}
use Rattle.ics_values.proofs.rule_text.Draft.take_value.Goals as goal

abbrev with_parts : Draft → RuleParts → Draft
with_parts d rule = record d { parts = rule }

-- the draft behind a list is that with the rule behind the list's items
list_taken : (list : ListName) (value : List ℕ) (d : Draft) →
    value_taken (part.List list) value d ≡ option_map (with_parts d) (walk (item_taken list) d.parts (pieces 44 value))
list_taken list value d = rw (walk-items list d.parts (pieces 44 value))
    (elim (cases_Bool (list_all (fits_list list) (pieces 44 value))) [ inl fit ↦ rw fit refl | inr other ↦ rw other refl ])

pub returns-in_err-take_items-in-List : goal.returns-in_err-take_items-in-List
returns-in_err-take_items-in-List c =
    let none : c.from_residual-in_err-take_items-in-List.result ≡ None = search rules in
    rw (none, c.in-List.is)
    (list_taken c.in-List.list c.args.value.now c.args.self.now ∙ ap (option_map (with_parts c.args.self.now)) c.in_err-take_items-in-List.ensures)

pub returns-in_ok-take_items-in-List : goal.returns-in_ok-take_items-in-List
returns-in_ok-take_items-in-List c = rw c.in-List.is
    (list_taken c.in-List.list c.args.value.now c.args.self.now ∙ ap (option_map (with_parts c.args.self.now)) c.in_ok-take_items-in-List.ensures)
