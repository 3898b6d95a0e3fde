use Rattle.std.proofs.Common.{◌≡◌}
use Rattle.ics_period.specs.Inner.NamedWeekdays.{named_below}
use Rattle.ics_period.proofs.part.named_weekdays.Given as goal

abbrev pub invariant-loop-weekday : goal.invariant-loop-weekday
invariant-loop-weekday l = l.named ≡ named_below l.weekdays l.weekday
