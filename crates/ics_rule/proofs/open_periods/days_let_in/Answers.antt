use Rattle.std.proofs.Common.{◌∙◌, ◌+◌, ◌<◌, ◌&&◌, true, false, refl, sym, subst, arith}
use Rattle.ics_period.specs.Candidates.{lets_date, is_stepped}
use Rattle.std.proofs.lemmas.Bool.Decides.{nat_tests}
use Rattle.std.proofs.lemmas.Nat.{mod-mul-add}
use Rattle.ics_period.proofs.IntervalLemmas.{stepped_shown}
use Rattle.ics_period.proofs.Counts.{count_most}
use Rattle.ics_period.proofs.DayWalkLemmas.{one_out}
use Rattle.ics_period.proofs.StepWalks.{walk_first, walk_small, walk_on, walk_past, walk_done, none_stepped}
use Rattle.ics_rule.proofs.open_periods.days_let_in.Goals as goal

pub loop-day-init : goal.loop-day-init
loop-day-init c = (
  walk_first c.args.search.now.interval c.requires.order (grind (arith, nat_tests, mod-mul-add, stepped_shown)),
  c.new-near.ensures c.args.search.now.parts.now,
)

pub overflow_add-total : goal.overflow_add-total
overflow_add-total c = let small = walk_small c.loop-day.invariant.0 in omega (arith, small, c.loop-day-test.true, c.requires.before)

pub loop-day-preserved-then-out-gt0 : goal.loop-day-preserved-then-out-gt0
loop-day-preserved-then-out-gt0 c =
    let none = c.days_out-out.ensures.none c.args.search.now.parts.now c.turn_to.ensures.near in (
      walk_past c.loop-day.invariant.0 (none c.loop-day.day (omega arith) (omega (arith, c.if-out-gt0.true)))
          (λ j h. none (c.loop-day.day + j) (omega arith) (omega (arith, h)))
          c.if-out-gt0.true c.next_step-day.ensures c.loop-day-test.true,
      c.turn_to.ensures.near,
    )

pub loop-day-preserved-then-lets_date : goal.loop-day-preserved-then-lets_date
loop-day-preserved-then-lets_date c =
    (walk_on c.loop-day.invariant.0 true (sym c.lets_date.ensures ∙ c.if-lets_date.true) refl c.loop-day-test.true, c.turn_to.ensures.near)

pub loop-day-preserved-then-leaves_months : goal.loop-day-preserved-then-leaves_months
loop-day-preserved-then-leaves_months c =
    let here = sym c.lets_date.ensures ∙ c.if-lets_date.false in (
      walk_past c.loop-day.invariant.0 here (λ j h. one_out (lets_date c.args.search.now.parts.now) c.loop-day.day here c.days_of_closed_month.ensures.none j
          (subst (λ x. j < x) c.max-closed.ensures h)) (omega (arith, c.max-closed.ensures)) c.next_step-day-then-leaves_months.ensures c.loop-day-test.true,
      c.turn_to.ensures.near,
    )

pub loop-day-preserved : goal.loop-day-preserved
loop-day-preserved c =
    (walk_on c.loop-day.invariant.0 false (sym c.lets_date.ensures ∙ c.if-lets_date.false) (omega arith) c.loop-day-test.true, c.turn_to.ensures.near)

pub returns-clause-value : goal.returns-clause-value
returns-clause-value c =
    let none = none_stepped c.args.from c.args.search.now.parts.now.interval (lets_date c.args.search.now.parts.now) in
    let all = walk_done c.loop-day.invariant.0 c.loop-day-test.false in
    omega (arith, none, all)

pub returns-clause-bound : goal.returns-clause-bound
returns-clause-bound c =
    let all = walk_done c.loop-day.invariant.0 c.loop-day-test.false in
    let most = count_most c.args.before (λ e. is_stepped c.args.from c.args.search.now.parts.now.interval e && lets_date c.args.search.now.parts.now e) in
    omega (arith, all, most)
