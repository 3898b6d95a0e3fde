use Rattle.std.proofs.Common.{arith}
use Rattle.jiff_core.specs.Weekday.{monday_zero}
use Rattle.ics_period.specs.Candidates.{period_in}
use Rattle.ics_period.specs.PeriodNumbers.{rules_end}
use Rattle.ics_period.proofs.PeriodLemmas.{before_first, begun, period_mono}
use Rattle.ics_rule.specs.Inner.Searches.{IsNextOpen}
use Rattle.ics_rule.proofs.QuietLemmas.{off_step}
use Rattle.ics_rule.proofs.quiet.begin_of_step.Goals as goal
use Rattle.ics_rule.proofs.quiet.begin_of_step.Goals.{After-step_from-step}

-- the step is the next from the local on
stepped : (c : After-step_from-step)
    → IsNextOpen c.args.search.now.parts.now (period_in c.args.search.now.parts.now c.args.search.now.start)
    (period_in c.args.search.now.parts.now c.args.n) c.step_from-step.result
stepped c = rw (c.args.search.now.of_start, c.period_of-own.ensures.value) at c.step_from-step.ensures

pub returns-then-step-period_of-clause-none : goal.returns-then-step-period_of-clause-none
returns-then-step-period_of-clause-none c =
    let q = c.args.search.now.parts.now in
    off_step q c.args.search.now.start c.args.n rules_end (stepped (goal.at.returns-then-step-period_of-clause-none c).After-step_from-step)
    (λ n l u. let up = period_mono q.frequency (monday_zero q.week_start) n rules_end (omega (arith, u)) in
    omega (arith, up, c.period_of.ensures.value, c.if-step-period_of.true))

pub first_local-requires : goal.first_local-requires
first_local-requires c =
    let q = c.args.search.now.parts.now in
    let low = begun q.frequency (monday_zero q.week_start) c.step_from-step.result rules_end
    (omega (arith, c.period_of.ensures.value, c.if-step-period_of.false)) in
    omega (arith, low)

pub returns-clause-none : goal.returns-clause-none
returns-clause-none c =
    let q = c.args.search.now.parts.now in
    off_step q c.args.search.now.start c.args.n c.first_local.result (stepped (goal.at.returns-clause-none c).After-step_from-step)
    (λ n l u. before_first q.frequency (monday_zero q.week_start) c.step_from-step.result n (omega (arith, u, c.first_local.ensures)))

pub returns-clause-inside : goal.returns-clause-inside
returns-clause-inside c =
    let q = c.args.search.now.parts.now in
    let low = begun q.frequency (monday_zero q.week_start) c.step_from-step.result rules_end
    (omega (arith, c.period_of.ensures.value, c.if-step-period_of.false)) in
    omega (arith, low, c.first_local.ensures)
