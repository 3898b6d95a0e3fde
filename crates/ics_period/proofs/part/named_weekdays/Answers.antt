use Rattle.std.proofs.Common.{arith}
use Rattle.std.proofs.lemmas.Bool.Decides.{nat_tests}
use Rattle.ics_period.proofs.ScanLemmas.{in_word}
use Rattle.ics_period.specs.Inner.NamedWeekdays.{named_below}
use Rattle.ics_period.proofs.part.named_weekdays.Goals as goal

pub loop-weekday-init : goal.loop-weekday-init
unfolding named_below
loop-weekday-init c = c.new-named.ensures

pub loop-weekday-preserved : goal.loop-weekday-preserved
unfolding named_below
loop-weekday-preserved c = grind (arith, nat_tests, in_word)
