use Rattle.std.proofs.Common.{◌∙◌, ◌/◌, arith}
use Rattle.ics_fields.specs.Sets.{contains}
use Rattle.ics_period.specs.RecurrencePeriods.{has_minute}
use Rattle.ics_period.proofs.ScanLemmas.{minute_true}
use Rattle.ics_period.proofs.ProductCounts.{count_taken, count_left}
use Rattle.ics_period.proofs.recurrence_period.RecurrencePeriod.seconds_below.Goals as goal

pub returns-then-contains-clause-value : goal.returns-then-contains-clause-value
returns-then-contains-clause-value c = count_taken c.args.second 60 (has_minute c.args.self.now.hours c.args.self.now.minutes)
    (contains c.args.self.now.seconds) (omega arith) (minute_true c.args.self.now.hours c.args.self.now.minutes (c.args.second / 60) (omega arith)
    c.contains.ensures
    c.contains-2.ensures ∙ c.if-contains.true) c.minutes_below.ensures.value c.members_below.ensures.value c.members_below-then-contains.ensures.value

pub returns-else-contains-clause-value : goal.returns-else-contains-clause-value
returns-else-contains-clause-value c = count_left c.args.second 60 (has_minute c.args.self.now.hours c.args.self.now.minutes)
    (contains c.args.self.now.seconds) (omega arith) (minute_true c.args.self.now.hours c.args.self.now.minutes (c.args.second / 60) (omega arith)
    c.contains.ensures
    c.contains-2.ensures ∙ c.if-contains.false) c.minutes_below.ensures.value c.members_below.ensures.value
