use Rattle.std.proofs.Common.{◌≡◌, ◌∙◌, ◌+◌, ◌-◌, ◌*◌, arith}
use Rattle.std.proofs.lemmas.Nat.{mul-le}
use Rattle.ics_rule.specs.Inner.OpenPeriods.{per_day}
use Rattle.ics_period.proofs.Counts.{count_most}
use Rattle.ics_rule.proofs.OpenLemmas.{IsDayRun, day_some, placed, placed_none, placed_all}
use Rattle.ics_rule.proofs.RestLemmas.{rounds_more, rounds_none}
use Rattle.ics_rule.proofs.each_day.open_of_rounds.Goals as goal
use Rattle.ics_rule.proofs.each_day.open_of_rounds.Goals.{then-off-eq0, else-off-eq0, After-min-end}

run : (c : After-min-end) → IsDayRun c.args.search.now.parts.now c.args.search.now.first c.args.from c.args.before
run c = record { fine = c.requires.fine; unit = c.requires.unit; some = c.args.search.now.interval; later = c.requires.first; order = c.requires.order }

pub loop-day-init : goal.loop-day-init
loop-day-init c =
    let here : c.args.from - c.args.from ≡ 0 = omega arith in record {
      low = omega arith;
      placed = rw here (placed_none (run (goal.at.loop-day-init c).After-min-end) 146_097);
      near = c.new-near.ensures c.args.search.now.parts.now;
    }

pub overflow_add-total : goal.overflow_add-total
overflow_add-total c =
    let q = c.args.search.now.parts.now in
    let sum = rounds_more (run (goal.at.overflow_add-total c).After-min-end) c.loop-day.invariant.low
    (omega (arith, c.loop-day-test.true, c.min-end.ensures)) (c.days_out_near-off.ensures.some c.if-off-eq0.true) c.loop-day.invariant.placed
    c.steps_of_rounds.ensures in
    let most = count_most (c.args.before * per_day q.frequency) (placed q c.args.search.now.first 146_097 c.args.from (c.loop-day.day + 1 - c.args.from)) in
    let high = mul-le c.args.before (per_day q.frequency) 3_579_743 86_400 c.requires.before (day_some q.frequency).1 in
    omega (arith, sum, most, high)

pub loop-day-preserved : goal.loop-day-preserved
loop-day-preserved c =
    let run = run (goal.at.loop-day-preserved c).After-min-end in
    let walk = c.loop-day.invariant in
    elim c.if-off-eq0.branch [
      | then-off-eq0 w ↦
          let next : c.max.result ≡ 1 = omega (arith, c.max.ensures, w.if-off-eq0.true) in record {
            low = omega (arith, walk.low);
            placed = rw next (w.total-is ∙ rounds_more run walk.low (omega (arith, c.loop-day-test.true, c.min-end.ensures))
                (c.days_out_near-off.ensures.some w.if-off-eq0.true) walk.placed w.steps_of_rounds.ensures);
            near = c.turn_to.ensures.near;
          }
      | else-off-eq0 w ↦
          let next : c.max.result ≡ c.days_out_near-off.result = omega (arith, c.max.ensures, w.if-off-eq0.false) in record {
            low = omega (arith, walk.low);
            placed = rw (next, w.total-is) (walk.placed ∙ rounds_none run c.days_out_near-off.result walk.low (λ e l h.
                let out = c.days_out_near-off.ensures.none (e - c.loop-day.day) (omega (arith, l, h)) in
                let same : c.loop-day.day + (e - c.loop-day.day) ≡ e = omega (arith, l) in
                rw same at out));
            near = c.turn_to.ensures.near;
          }
    ]

pub returns : goal.returns
returns c = placed_all (run (goal.at.returns c).After-min-end) (omega arith)
    (omega (arith, c.loop-day-test.false, c.min-end.ensures, c.loop-day.invariant.low)) c.loop-day.invariant.placed
