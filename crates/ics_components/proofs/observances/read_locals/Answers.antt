use Rattle.std.proofs.Common.{◌∙◌, arith}
use Rattle.std.proofs.lemmas.Grind.{common_steps}
use Rattle.std.proofs.lemmas.List.Elements.{filter_map-append}
use Rattle.std.proofs.lemmas.List.Folds.{list_any_at, list_any_more}
use Rattle.ics_components.proofs.DateValueLemmas.{is_other, locals-fault}
use Rattle.ics_components.proofs.observances.read_locals.Goals as goal

pub returns-in_default : goal.returns-in_default
returns-in_default c =
    let fault = locals-fault c.args.text.now _ c.in_ok-dates.ensures.0 (c.deref-value-items.ensures.value ∙ c.dates.view_is ∙ c.in_ok-dates.ensures.1) in
    grind (arith, common_steps, fault, list_any_at is_other c.deref-value-items.result.now c.loop-value.value-index c.value-item.result)

pub loop-value-preserved : goal.loop-value-preserved
loop-value-preserved c = grind (arith, common_steps, filter_map-append, list_any_more)

pub returns : goal.returns
returns c =
    let fault = locals-fault c.args.text.now _ c.in_ok-dates.ensures.0 (c.deref-value-items.ensures.value ∙ c.dates.view_is ∙ c.in_ok-dates.ensures.1) in
    grind (arith, common_steps, fault)
