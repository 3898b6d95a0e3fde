use Rattle.std.proofs.Common.{◌∙◌, ◌+◌, ◌<◌, ap, nat_lt, pos, arith}
use Rattle.jiff_core.proofs.CalendarLemmas.{days_in_month_bounds, days_in_year_bounds}
use Rattle.ics_fields.specs.Sets.{contains, contains_wide}
use Rattle.ics_fields.specs.Days.{year_of}
use Rattle.ics_fields.proofs.SetLemmas.{member_below}
use Rattle.ics_period.proofs.ScanLemmas.{none_has}
use Rattle.ics_period.proofs.MonthDays.{months_none, month_step, months_done}
use Rattle.ics_period.proofs.days.add_listed_days.Goals as goal
use Rattle.ics_period.proofs.days.add_listed_days.Goals.{In-Some}

pub loop-month-init : goal.loop-month-init
loop-month-init c = (
  λ k. ap (λ ws. contains_wide ws k) c.requires.empty ∙ none_has k
      ∙ months_none c.args.parts.now (contains c.open_months-months.result) (c.args.first + k) (nat_lt k c.args.len),
  omega arith,
)

small : (c : In-Some) → c.in-Some.month < 13
small c = member_below c.open_months-months.result 13 c.in-Some.month c.open_months-months.ensures.bound c.in-Some.ensures.next.passes

pub month_run-requires-clause-high : goal.month_run-requires-clause-high
month_run-requires-clause-high c = let s = small (goal.at.month_run-requires-clause-high c).In-Some in omega (arith, s)

pub add_month-requires-clause-run : goal.add_month-requires-clause-run
add_month-requires-clause-run c =
    let year = days_in_year_bounds (pos (year_of c.args.first)) in
    let own = c.month_run.ensures.month (year_of c.args.first) c.requires.span in
    let month = days_in_month_bounds (pos (year_of c.args.first)) c.in-Some.month in
    let within = c.month_run.ensures.within (year_of c.args.first) c.requires.span in record {
      weekday = omega (arith, own.weekday);
      some = omega (arith, month.1, own.size);
      most = omega (arith, month.0, own.size);
      within = omega (arith, year.0, within, c.requires.span.1.1);
    }

pub add_month-requires-clause-month : goal.add_month-requires-clause-month
add_month-requires-clause-month c =
    let b = days_in_month_bounds (pos (year_of c.args.first)) c.in-Some.month in
    omega (arith, b.0, (c.month_run.ensures.month (year_of c.args.first) c.requires.span).size)

pub loop-month-preserved : goal.loop-month-preserved
loop-month-preserved c = (
  λ k. month_step c.args.parts.now k (c.month_run.ensures.month (year_of c.args.first) c.requires.span) c.requires.span.1
      (c.month_run.ensures.within (year_of c.args.first) c.requires.span) c.in-Some.ensures.next (c.loop-month.invariant.0 k) (c.add_month.ensures k),
  omega arith,
)

pub returns : goal.returns
returns c = λ k. c.loop-month.invariant.0 k
    ∙ months_done c.args.parts.now (contains c.open_months-months.result) (c.args.first + k) (nat_lt k c.args.len) c.in_default.ensures.next
    c.open_months-months.ensures.members
