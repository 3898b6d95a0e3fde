use Rattle.std.proofs.Common.{◌∙◌, ◌/◌, min, sym, ap, arith}
use Rattle.ics_period.specs.RecurrencePeriods.{has_day, has_second}
use Rattle.ics_period.proofs.Counts.{count_most}
use Rattle.ics_period.proofs.ProductCounts.{count_taken, count_left, days_before}
use Rattle.ics_period.proofs.recurrence_period.RecurrencePeriod.rank_before.Goals as goal

pub returns-then-has_day-clause-value : goal.returns-then-has_day-clause-value
returns-then-has_day-clause-value c = count_taken c.args.n 86_400 (has_day c.args.self.now) (has_second c.args.self.now) (omega arith)
    (sym c.has_day.ensures ∙ c.if-has_day.true)
    (c.members_below.ensures.value ∙ days_before c.args.self.now (c.args.n / 86_400) c.min-skipped.result (c.min-skipped.ensures
    ∙ ap (λ x. min x 384) c.saturating_sub.ensures))
    c.seconds_below.ensures.value c.seconds_below-then-has_day.ensures.value

pub returns-else-has_day-clause-value : goal.returns-else-has_day-clause-value
returns-else-has_day-clause-value c = count_left c.args.n 86_400 (has_day c.args.self.now) (has_second c.args.self.now) (omega arith)
    (sym c.has_day.ensures ∙ c.if-has_day.false)
    (c.members_below.ensures.value ∙ days_before c.args.self.now (c.args.n / 86_400) c.min-skipped.result (c.min-skipped.ensures
    ∙ ap (λ x. min x 384) c.saturating_sub.ensures))
    c.seconds_below.ensures.value

pub returns-then-has_day-clause-bound : goal.returns-then-has_day-clause-bound
returns-then-has_day-clause-bound c = grind (arith, count_most, returns-then-has_day-clause-value)

pub returns-else-has_day-clause-bound : goal.returns-else-has_day-clause-bound
returns-else-has_day-clause-bound c = grind (arith, count_most, returns-else-has_day-clause-value)
