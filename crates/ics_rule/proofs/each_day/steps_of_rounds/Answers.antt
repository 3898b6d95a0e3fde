use Rattle.std.proofs.Common.{◌+◌, ◌*◌, min, ap, arith}
use Rattle.std.proofs.Math.Nat.{mul-le-mul_right}
use Rattle.std.proofs.lemmas.Nat.{mul-le}
use Rattle.ics_period.specs.Candidates.{is_stepped}
use Rattle.ics_rule.specs.Inner.OpenPeriods.{per_day, is_timely_on}
use Rattle.ics_period.proofs.Counts.{count_most}
use Rattle.ics_period.proofs.IntervalLemmas.{step_on}
use Rattle.ics_rule.proofs.OpenLemmas.{day_some}
use Rattle.ics_rule.proofs.RestLemmas.{round_added, rounds_done}
use Rattle.ics_rule.proofs.each_day.steps_of_rounds.Goals as goal

pub steps_in_rounds-requires-clause-first : goal.steps_in_rounds-requires-clause-first
steps_in_rounds-requires-clause-first c =
    let low = mul-le-mul_right (per_day c.args.search.now.parts.now.frequency) c.requires.begun in omega (arith, low, c.requires.first)

pub overflow_add-total : goal.overflow_add-total
overflow_add-total c =
    let q = c.args.search.now.parts.now in
    let walk = c.loop-day.invariant in
    let sum = round_added q c.args.search.now.first c.args.from c.loop-day.total c.loop-day-test.true walk.day walk.passed
    (ap (λ x. c.loop-day.total + x) c.steps_at-total.ensures) in
    let days = min (c.loop-day.day + 146_097) c.args.before in
    let most = count_most (days * per_day q.frequency) (is_timely_on q c.args.search.now.first (is_stepped c.args.from 146_097)) in
    let high = mul-le days (per_day q.frequency) 3_579_743 86_400 (omega (arith, c.requires.before)) (day_some q.frequency).1 in
    omega (arith, sum, most, high)

pub loop-day-preserved : goal.loop-day-preserved
loop-day-preserved c =
    let walk = c.loop-day.invariant in record {
      day = step_on 146_097 (omega arith) c.args.from c.loop-day.day walk.day;
      passed = round_added c.args.search.now.parts.now c.args.search.now.first c.args.from c.loop-day.total c.loop-day-test.true walk.day walk.passed
          (ap (λ x. c.loop-day.total + x) c.steps_at-total.ensures);
    }

pub returns : goal.returns
returns c = rounds_done c.args.search.now.parts.now c.args.search.now.first c.args.from (omega (arith, c.loop-day-test.false)) c.loop-day.invariant.passed
