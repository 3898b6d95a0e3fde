use Rattle.std.proofs.Common.{◌≡◌, ◌∙◌, ◌&&◌, ◌+◌, ◌*◌, ◌<◌, ◌≤◌, refl, arith}
use Rattle.std.proofs.lemmas.Nat.{mul-le}
use Rattle.ics_period.specs.Candidates.{is_stepped, lets_date}
use Rattle.ics_period.specs.Ranks.{count}
use Rattle.ics_rule.specs.Inner.OpenPeriods.{per_day}
use Rattle.ics_period.proofs.Counts.{count_most}
use Rattle.ics_rule.proofs.OpenLemmas.{IsDayRun, day_some, placed, placed_none, placed_more, placed_all}
use Rattle.ics_rule.proofs.open_periods.open_of_rests.Goals as goal
use Rattle.ics_rule.proofs.open_periods.open_of_rests.Goals.{then-steps-gt0, else-steps-gt0, After-min-j-end, After-days_let_in}

run : (c : After-min-j-end) → IsDayRun c.args.search.now.parts.now c.args.search.now.first c.args.from c.args.before
run c = record { fine = c.requires.fine; unit = c.requires.unit; some = c.args.search.now.interval; later = c.requires.first; order = c.requires.order }

pub loop-j-init : goal.loop-j-init
loop-j-init c = placed_none (run c) c.args.search.now.parts.now.interval

-- the sum of the days so far is small
small : (c : After-days_let_in) → IsDayRun c.args.search.now.parts.now c.args.search.now.first c.args.from c.args.before
    → c.loop-j.total + c.days_let_in.result * c.steps_let_in-steps.result ≤ 3_579_743 * 86_400
small c run =
    let all = placed_more run (omega (arith, c.loop-j-test.true, c.min-j-end.ensures)) c.steps_let_in-steps.result c.loop-j.invariant
    c.days_let_in.ensures.value c.seconds_of-per_day.ensures.value c.steps_let_in-steps.ensures in
    let most = count_most (c.args.before * per_day c.args.search.now.parts.now.frequency)
    (placed c.args.search.now.parts.now c.args.search.now.first c.args.search.now.parts.now.interval c.args.from (c.loop-j.j + 1)) in
    let high = mul-le c.args.before (per_day c.args.search.now.parts.now.frequency) 3_579_743 86_400 c.requires.before
    (day_some c.args.search.now.parts.now.frequency).1 in
    omega (arith, all, most, high)

pub overflow_mul-total : goal.overflow_mul-total
overflow_mul-total c = let sum = small c (run (goal.at.overflow_mul-total c).After-min-j-end) in omega (arith, sum)

pub overflow_add-total : goal.overflow_add-total
overflow_add-total c = let sum = small c (run (goal.at.overflow_add-total c).After-min-j-end) in omega (arith, sum)

pub loop-j-preserved : goal.loop-j-preserved
loop-j-preserved c =
    let run = run (goal.at.loop-j-preserved c).After-min-j-end in
    let less : c.loop-j.j < c.args.search.now.parts.now.interval = omega (arith, c.loop-j-test.true, c.min-j-end.ensures) in
    elim c.if-steps-gt0.branch [
      | then-steps-gt0 w ↦ w.total-is ∙ placed_more run less c.steps_let_in-steps.result c.loop-j.invariant
          w.days_let_in.ensures.value c.seconds_of-per_day.ensures.value c.steps_let_in-steps.ensures
      | else-steps-gt0 w ↦
          let none : c.steps_let_in-steps.result ≡ 0 = omega (arith, w.if-steps-gt0.false) in
          let same = placed_more run less {days = count c.args.before
          (λ e. is_stepped (c.args.from + c.loop-j.j) c.args.search.now.parts.now.interval e && lets_date c.args.search.now.parts.now e)}
          0 c.loop-j.invariant refl c.seconds_of-per_day.ensures.value (rw none at c.steps_let_in-steps.ensures) in
          omega (arith, w.total-is, same)
    ]

pub returns : goal.returns
returns c = placed_all (run (goal.at.returns c).After-min-j-end) c.args.search.now.interval
    (omega (arith, c.loop-j-test.false, c.loop-j.auto.j-end, c.min-j-end.ensures)) c.loop-j.invariant
