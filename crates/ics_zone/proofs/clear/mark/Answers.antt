use Rattle.std.proofs.Common.{arith}
use Rattle.ics_zone.proofs.MinuteLemmas.{marked-set_bit}
use Rattle.ics_zone.proofs.clear.mark.Goals as goal

pub returns-clause-marks : goal.returns-clause-marks
returns-clause-marks c = λ k. marked-set_bit c.args.marks.now c.args.second k (omega arith)
