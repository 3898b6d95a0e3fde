use Rattle.std.proofs.Common.{inl, inr, ◌∙◌, ◌+◌, ◌%◌, ap, refl, arith}
use Rattle.jiff_core.proofs.CalendarLemmas.{days_in_month_bounds}
use Rattle.ics_fields.specs.Sets.{contains_wide}
use Rattle.ics_period.proofs.ScanLemmas.{none_has}
use Rattle.ics_period.proofs.MonthDays.{month_alone, span_month}
use Rattle.ics_period.specs.Runs.{counts_in_month}
use Rattle.ics_period.proofs.days.add_days_of_month.Goals as goal
use Rattle.ics_period.proofs.days.add_days_of_month.Goals.{then-lets, else-lets}

pub add_days_by_day-requires-clause-size : goal.add_days_by_day-requires-clause-size
add_days_by_day-requires-clause-size c = grind (arith, days_in_month_bounds)

pub add_days_by_day-requires-clause-days : goal.add_days_by_day-requires-clause-days
add_days_by_day-requires-clause-days c = grind (arith, days_in_month_bounds)

pub add_month-requires-clause-run : goal.add_month-requires-clause-run
add_month-requires-clause-run c = grind (arith, days_in_month_bounds)

pub add_month-requires-clause-month : goal.add_month-requires-clause-month
add_month-requires-clause-month c = grind (arith, days_in_month_bounds)

pub leave_let_in-requires-clause-numbers : goal.leave_let_in-requires-clause-numbers
leave_let_in-requires-clause-numbers c = ap (counts_in_month c.args.parts.now) c.requires.frequency

pub leave_let_in-requires-clause-listed : goal.leave_let_in-requires-clause-listed
leave_let_in-requires-clause-listed c = λ k. month_alone c.args.parts.now k
    (span_month c.args.number c.args.first c.args.len ((c.args.first + 5) % 7) c.requires.span refl)
    (ap (λ ws. contains_wide ws k) c.requires.empty ∙ none_has k) c.lets.ensures (elim c.if-lets.branch [
      | then-lets w ↦ inl (w.if-lets.true, rw w.weekday_at.ensures.value at (ap (λ ws. contains_wide ws k) w.days-is ∙ w.add_month.ensures k))
      | else-lets w ↦ inr (w.if-lets.false, ap (λ ws. contains_wide ws k) w.days-is)
    ])
