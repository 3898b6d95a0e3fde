use Rattle.std.proofs.Common.{arith}
use Rattle.std.proofs.lemmas.Grind.{common_steps}
use Rattle.ics_text.proofs.Walks.{over_param_name}
use Rattle.ics_text.proofs.content_line.param_len.Goals as goal

pub returns-in_err-values_len-in-61-clause-value : goal.returns-in_err-values_len-in-61-clause-value
returns-in_err-values_len-in-61-clause-value c =
    let name = over_param_name c.args.text.now c.name_len-name.result c.name_len-name.ensures.value (grind (arith, common_steps)) in
    grind (arith, common_steps)

pub returns-in_ok-values_len-in-61-clause-value : goal.returns-in_ok-values_len-in-61-clause-value
returns-in_ok-values_len-in-61-clause-value c =
    let name = over_param_name c.args.text.now c.name_len-name.result c.name_len-name.ensures.value (grind (arith, common_steps)) in
    grind (arith, common_steps)

pub returns-in_default-clause-value : goal.returns-in_default-clause-value
returns-in_default-clause-value c =
    let name = over_param_name c.args.text.now c.name_len-name.result c.name_len-name.ensures.value (grind (arith, common_steps)) in
    grind (arith, common_steps)

pub returns-in_default-2-clause-value : goal.returns-in_default-2-clause-value
returns-in_default-2-clause-value c =
    let name = over_param_name c.args.text.now c.name_len-name.result c.name_len-name.ensures.value (grind (arith, common_steps)) in
    grind (arith, common_steps)
