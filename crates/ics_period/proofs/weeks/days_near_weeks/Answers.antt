use Rattle.std.proofs.Common.{◌∙◌, ◌+◌, ◌-◌, ◌%◌, ap, pos, sym, arith}
use Rattle.jiff_core.proofs.CalendarLemmas.{days_in_year_bounds}
use Rattle.ics_fields.specs.Sets.{contains_wide}
use Rattle.ics_fields.specs.Days.{year_of}
use Rattle.ics_period.proofs.ScanLemmas.{none_has}
use Rattle.ics_period.proofs.WeekDays.{cover_starts, cover_adds, cover_jumps, covered, IsYearOfWeeks, week_near}
use Rattle.ics_period.proofs.weeks.days_near_weeks.Goals as goal
use Rattle.ics_period.proofs.weeks.days_near_weeks.Goals.{After-weekday_at}

year : (c : After-weekday_at) → IsYearOfWeeks c.args.parts.now c.args.first c.args.len ((c.index.result + 10 - c.weekday_at.result) % 7)
year c = grind arith

pub loop-n-init : goal.loop-n-init
loop-n-init c = let b = days_in_year_bounds (pos (year_of c.args.first)) in (
  cover_starts c.new-days.result c.add_between.new.days (omega (arith, b.1, c.requires.size))
      (λ m. ap (λ ws. contains_wide ws m) c.new-days.ensures ∙ none_has m)
      c.add_between.ensures c.add_between-2.ensures,
  omega arith,
)

pub loop-n-preserved : goal.loop-n-preserved
loop-n-preserved c = (
  cover_adds c.saturating_sub-low.ensures
      c.min-high.ensures c.add_between-in-Some.ensures
      (cover_jumps
      (λ j low less. sym (c.listed_weeks-listed.ensures j (omega (arith, low, c.loop-n.invariant.1)) (omega (arith, less, c.if-n-gt53.false)))
      ∙ c.in-Some.ensures.next.least j low less) c.loop-n.invariant.0),
  omega arith,
)

pub returns-then-n-gt53-clause-all : goal.returns-then-n-gt53-clause-all
returns-then-n-gt53-clause-all c = λ k h l. covered 54 k (omega arith) h
    (cover_jumps
    (λ j low less. sym (c.listed_weeks-listed.ensures j (omega (arith, low, c.loop-n.invariant.1)) (omega (arith, less)))
    ∙ c.in-Some.ensures.next.least j low (omega (arith, less, c.if-n-gt53.true))) c.loop-n.invariant.0)
    (week_near c.args.parts.now k (year (goal.at.returns-then-n-gt53-clause-all c).After-weekday_at) h l)

pub returns-clause-all : goal.returns-clause-all
returns-clause-all c = λ k h l. covered 54 k (omega arith) h
    (cover_jumps
    (λ j low less. sym (c.listed_weeks-listed.ensures j (omega (arith, low, c.loop-n.invariant.1)) (omega (arith, less)))
    ∙ c.in_default.ensures.next j low) c.loop-n.invariant.0)
    (week_near c.args.parts.now k (year (goal.at.returns-clause-all c).After-weekday_at) h l)
