use Rattle.std.proofs.Common.{◌≡◌, ◌∙◌, ◌+◌, ◌-◌, ◌*◌, ◌≤◌, min, ap, arith}
use Rattle.std.proofs.lemmas.Nat.{mul-le}
use Rattle.ics_period.specs.Candidates.{lets_date}
use Rattle.ics_rule.specs.Inner.OpenPeriods.{per_day, is_open_period}
use Rattle.ics_period.proofs.Counts.{count_most}
use Rattle.ics_rule.proofs.OpenLemmas.{day_some}
use Rattle.ics_rule.proofs.RestLemmas.{day_added, days_passed}
use Rattle.ics_rule.proofs.each_day.open_of_each.Goals as goal
use Rattle.ics_rule.proofs.each_day.open_of_each.Goals.{then-off-eq0, else-off-eq0}

pub loop-day-init : goal.loop-day-init
loop-day-init c =
    let here : min c.args.from c.args.before ≡ c.args.from = omega (arith, c.requires.order) in record {
      low = omega arith;
      passed = rw here (omega arith);
      near = c.new-near.ensures c.args.search.now.parts.now;
    }

pub overflow_add-total : goal.overflow_add-total
overflow_add-total c =
    let q = c.args.search.now.parts.now in
    let first = c.args.search.now.first in
    let sum = day_added q first (lets_date q) c.args.from c.args.before c.loop-day.day c.loop-day.total c.loop-day-test.true c.loop-day.invariant.passed
    (c.days_out_near-off.ensures.some c.if-off-eq0.true) (ap (λ x. c.loop-day.total + x) c.steps_at.ensures) in
    let days = min (c.loop-day.day + 1) c.args.before in
    let most = count_most (days * per_day q.frequency) (is_open_period q first) in
    let top : c.args.before ≤ 3_579_743 = c.requires.before in
    let high = mul-le days (per_day q.frequency) 3_579_743 86_400 (omega (arith, top)) (day_some q.frequency).1 in
    omega (arith, sum, most, high)

pub loop-day-preserved : goal.loop-day-preserved
loop-day-preserved c =
    let q = c.args.search.now.parts.now in
    let first = c.args.search.now.first in
    elim c.if-off-eq0.branch [
      | then-off-eq0 w ↦
          let next : c.max.result ≡ 1 = omega (arith, c.max.ensures, w.if-off-eq0.true) in record {
            low = omega (arith, c.loop-day.invariant.low);
            passed = rw next (day_added q first (lets_date q) c.args.from c.args.before c.loop-day.day c.loop-day.total c.loop-day-test.true
                c.loop-day.invariant.passed (c.days_out_near-off.ensures.some w.if-off-eq0.true)
                (w.total-is ∙ ap (λ x. c.loop-day.total + x) w.steps_at.ensures));
            near = c.turn_to.ensures.near;
          }
      | else-off-eq0 w ↦
          let next : c.max.result ≡ c.days_out_near-off.result = omega (arith, c.max.ensures, w.if-off-eq0.false) in record {
            low = omega (arith, c.loop-day.invariant.low);
            passed = rw (next, w.total-is) (days_passed q first (lets_date q) c.args.from c.args.before c.loop-day.day c.loop-day.total c.loop-day-test.true
                c.loop-day.invariant.passed c.days_out_near-off.result (λ e l h.
                let out = c.days_out_near-off.ensures.none (e - c.loop-day.day) (omega (arith, l, h)) in
                let same : c.loop-day.day + (e - c.loop-day.day) ≡ e = omega (arith, l) in
                rw same at out));
            near = c.turn_to.ensures.near;
          }
    ]
