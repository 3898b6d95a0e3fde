use Rattle.std.proofs.Common.{◌≡◌, ℕ, Bool, true, false, refl, ◌∙◌, ◌+◌, ◌-◌, ◌*◌, ◌/◌, ◌%◌, ◌≤◌, ◌<◌, nat_lt, cond, min, ap, sym, arith}
use Rattle.std.proofs.lemmas.Bool.Decides.{nat_tests}
use Rattle.std.proofs.lemmas.Nat.{mul-le}
use Rattle.std.proofs.Math.Nat.{add-mul, mul-le-mul_right}
use mir.Val.{bool_byte}
use Rattle.ics_fields.specs.declared.frequency.Frequency.{Frequency}
use Rattle.ics_period.specs.Candidates.{is_stepped}
use Rattle.ics_period.specs.Ranks.{count}
use Rattle.ics_rule.specs.Inner.Rounds.{seconds_of}
use Rattle.ics_rule.specs.Inner.OpenPeriods.{per_day, is_timely_on}
use Rattle.ics_period.proofs.Counts.{count_most}
use Rattle.ics_period.proofs.IntervalLemmas.{next_near, step_later_by, step_on, stepped_parts}
use Rattle.ics_rule.proofs.OpenLemmas.{day_seconds, day_some}
use Rattle.ics_rule.proofs.RestLemmas.{round_added, rounds_done, steps_at_once}
use Rattle.ics_rule.proofs.each_day.steps_in_rounds.Goals as goal
use Rattle.ics_rule.proofs.each_day.steps_in_rounds.Goals.{After-from}

byte : (b : Bool) → bool_byte b ≡ cond b 1 0
byte true = refl
byte false = refl

per : (f : Frequency) {unit : ℕ} → unit ≡ seconds_of f → 0 < seconds_of f → seconds_of f ≤ 86_400 → 86_400 / unit ≡ per_day f
per f e fine short = ap (λ x. 86_400 / x) e ∙ (day_seconds f fine short).1

pub loop-day-init : goal.loop-day-init
loop-day-init c =
    let whole = per c.args.search.now.parts.now.frequency c.seconds_of-per_day.ensures.value c.requires.fine c.requires.unit in
    let least = rw whole at c.next_step-number.ensures in
    let here : min c.args.from c.args.before ≡ c.args.from = omega (arith, c.requires.order) in record {
      step = least.passes;
      low = least.low;
      high = next_near c.args.search.now.parts.now.interval c.args.search.now.interval c.requires.first least;
      day = grind (arith, nat_tests);
      passed = rw here (omega arith);
    }

-- the steps of a day are added
passed : (c : After-from) → c.loop-day.total + (86_400 / c.seconds_of-per_day.result / c.args.search.now.parts.now.interval + c.from.result)
    + count (c.args.from * per_day c.args.search.now.parts.now.frequency)
    (is_timely_on c.args.search.now.parts.now c.args.search.now.first (is_stepped c.args.from 146_097))
    ≡ count (min (c.loop-day.day + 146_097) c.args.before * per_day c.args.search.now.parts.now.frequency)
    (is_timely_on c.args.search.now.parts.now c.args.search.now.first (is_stepped c.args.from 146_097))
passed c =
    let q = c.args.search.now.parts.now in
    let first = c.args.search.now.first in
    let walk = c.loop-day.invariant in
    let days = stepped_parts c.args.from 146_097 c.loop-day.day walk.day in let low = mul-le-mul_right (per_day q.frequency) days.0 in
    let begun : first ≤ c.loop-day.day * per_day q.frequency = omega (arith, low, c.requires.first) in
    let own = steps_at_once q first c.loop-day.day c.requires.every c.args.search.now.interval begun walk.step walk.low walk.high in
    round_added q first c.args.from c.loop-day.total c.loop-day-test.true walk.day walk.passed (ap (λ x. c.loop-day.total + x)
    (rw (c.from.ensures, per q.frequency c.seconds_of-per_day.ensures.value c.requires.fine c.requires.unit)
    (ap (λ x. per_day q.frequency / q.interval + x) (byte (nat_lt (c.loop-day.number - c.loop-day.day * per_day q.frequency)
    (per_day q.frequency % q.interval))) ∙ sym own)))

pub overflow_add-total-in-loop-day : goal.overflow_add-total-in-loop-day
overflow_add-total-in-loop-day c =
    let sum = passed (goal.at.overflow_add-total-in-loop-day c).After-from in
    let d = per_day c.args.search.now.parts.now.frequency in
    let days = min (c.loop-day.day + 146_097) c.args.before in
    let most = count_most (days * d) (is_timely_on c.args.search.now.parts.now c.args.search.now.first (is_stepped c.args.from 146_097)) in
    let high = mul-le days d 3_579_743 86_400 (omega (arith, c.requires.before)) (day_some c.args.search.now.parts.now.frequency).1 in
    omega (arith, sum, most, high)

pub loop-day-preserved-then-number-day : goal.loop-day-preserved-then-number-day
loop-day-preserved-then-number-day c =
    let i = c.args.search.now.parts.now.interval in
    let d = per_day c.args.search.now.parts.now.frequency in
    let whole = per c.args.search.now.parts.now.frequency c.seconds_of-per_day.ensures.value c.requires.fine c.requires.unit in
    let walk = c.loop-day.invariant in
    let later = step_later_by i c.args.search.now.interval c.args.search.now.first (146_097 * d) walk.step walk.low walk.high in
    let spread = add-mul c.loop-day.day 146_097 d in
    let early = rw whole at c.if-number-day.true in
    let on = passed (goal.at.loop-day-preserved-then-number-day c).After-from in let sum = rw whole at on in
    rw whole record {
      step = step_on i c.args.search.now.interval c.args.search.now.first (c.loop-day.number + 146_097 * d / i * i) later.0;
      low = omega (arith, later.1.1, spread);
      high = omega (arith, early);
      day = step_on 146_097 (omega arith) c.args.from c.loop-day.day walk.day;
      passed = sum;
    }

pub loop-day-preserved : goal.loop-day-preserved
loop-day-preserved c =
    let i = c.args.search.now.parts.now.interval in
    let d = per_day c.args.search.now.parts.now.frequency in
    let whole = per c.args.search.now.parts.now.frequency c.seconds_of-per_day.ensures.value c.requires.fine c.requires.unit in
    let walk = c.loop-day.invariant in
    let later = step_later_by i c.args.search.now.interval c.args.search.now.first (146_097 * d) walk.step walk.low walk.high in
    let spread = add-mul c.loop-day.day 146_097 d in
    let late = rw whole at c.if-number-day.false in
    let on = passed (goal.at.loop-day-preserved c).After-from in let sum = rw whole at on in
    rw whole record {
      step = later.0;
      low = omega (arith, late);
      high = omega (arith, later.1.0, spread);
      day = step_on 146_097 (omega arith) c.args.from c.loop-day.day walk.day;
      passed = sum;
    }

pub returns : goal.returns
returns c = rounds_done c.args.search.now.parts.now c.args.search.now.first c.args.from (omega (arith, c.loop-day-test.false)) c.loop-day.invariant.passed
