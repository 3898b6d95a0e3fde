use Rattle.std.proofs.Common.{refl}
use Rattle.ics_period.proofs.ProductCounts.{whole_size, days_in_all}
use Rattle.ics_period.proofs.recurrence_period.RecurrencePeriod.size.Goals as goal

pub returns-clause-value : goal.returns-clause-value
returns-clause-value c =
    rw (c.members_below.ensures.value, c.seconds_below.ensures.value, whole_size c.args.self.now, days_in_all c.args.self.now c.requires.1.first) refl
