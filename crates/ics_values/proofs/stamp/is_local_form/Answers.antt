use Rattle.std.proofs.Common.{arith}
use Rattle.std.proofs.lemmas.Grind.{common_steps}
use Rattle.ics_values.proofs.stamp.is_local_form.Goals as goal

pub returns-then-to_ascii_uppercase-eq84 : goal.returns-then-to_ascii_uppercase-eq84
returns-then-to_ascii_uppercase-eq84 c = grind (arith, common_steps)
