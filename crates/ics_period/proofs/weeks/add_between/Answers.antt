use Rattle.std.proofs.Common.{arith}
use Rattle.std.proofs.lemmas.Bool.Decides.{nat_tests}
use Rattle.ics_period.proofs.WeekDays.{between_more, between_done}
use Rattle.ics_period.proofs.weeks.add_between.Goals as goal

pub loop-k-init : goal.loop-k-init
loop-k-init c = grind (arith, nat_tests)

pub loop-k-preserved : goal.loop-k-preserved
loop-k-preserved c = grind (arith, between_more)

pub returns : goal.returns
returns c = grind (arith, between_done)
