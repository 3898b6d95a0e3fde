use Rattle.std.proofs.Common.{refl}
use Rattle.ics_rule.proofs.CursorLemmas.{few_steps}
use Rattle.ics_rule.proofs.cursor.Cursor.steps.Goals as goal

pub returns : goal.returns
returns c = record { value = refl; most = λ r a b own few. few_steps r c.args.self.now a b own few }
