use Rattle.std.proofs.Common.{arith}
use Rattle.std.proofs.lemmas.Bool.Decides.{nat_tests}
use Rattle.ics_values.proofs.offset.read_offset.Goals as goal

pub returns-then-hours-gt23-clause-value : goal.returns-then-hours-gt23-clause-value
returns-then-hours-gt23-clause-value c = grind (arith, nat_tests)
