use Rattle.std.proofs.Common.{◌≡◌, ◌==◌, true, arith}
use Rattle.std.proofs.lemmas.Grind.{common_steps}
use Rattle.ics_text.specs.Bytes.{begins}
use Rattle.ics_text.proofs.Walks.{quoted_value}
use Rattle.ics_text.proofs.content_line.value_len.Goals as goal

pub returns-in-34-2-clause-value : goal.returns-in-34-2-clause-value
returns-in-34-2-clause-value c =
    let quoted : begins (λ b. b == 34) c.args.text.now ≡ true = grind (arith, common_steps) in
    let walk = quoted_value c.args.text.now quoted in
    grind (arith, common_steps)

pub returns-in_default-2-clause-value : goal.returns-in_default-2-clause-value
returns-in_default-2-clause-value c =
    let quoted : begins (λ b. b == 34) c.args.text.now ≡ true = grind (arith, common_steps) in
    let walk = quoted_value c.args.text.now quoted in
    grind (arith, common_steps)

pub returns-in_default-2-2-clause-value : goal.returns-in_default-2-2-clause-value
returns-in_default-2-2-clause-value c =
    let quoted : begins (λ b. b == 34) c.args.text.now ≡ true = grind (arith, common_steps) in
    let walk = quoted_value c.args.text.now quoted in
    grind (arith, common_steps)
