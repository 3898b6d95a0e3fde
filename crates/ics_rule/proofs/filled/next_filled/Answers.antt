use Rattle.std.proofs.Common.{◌+◌, ◌/◌, ap, arith}
use Rattle.jiff_core.specs.Weekday.{monday_zero}
use Rattle.ics_period.specs.Candidates.{period_in}
use Rattle.ics_period.specs.PeriodNumbers.{rules_end}
use Rattle.ics_period.proofs.PeriodLemmas.{begun, period_mono}
use Rattle.ics_rule.proofs.FilledLemmas.{day_up, one_poor, poor_before, poor_ever, poor_more, poor_none}
use Rattle.ics_rule.proofs.filled.next_filled.Goals as goal

pub first_local-requires : goal.first_local-requires
first_local-requires c =
    let q = c.args.search.now.parts.now in
    let low = begun q.frequency (monday_zero q.week_start) c.period_of-begin.result c.args.n (omega (arith, c.period_of-begin.ensures.value)) in
    omega (arith, low, c.requires.inside)

pub overflow_cast-day : goal.overflow_cast-day
overflow_cast-day c =
    let q = c.args.search.now.parts.now in
    let low = begun q.frequency (monday_zero q.week_start) c.period_of-begin.result c.args.n (omega (arith, c.period_of-begin.ensures.value)) in
    omega (arith, low, c.requires.inside, c.first_local.ensures)

pub loop-number-init : goal.loop-number-init
loop-number-init c =
    let q = c.args.search.now.parts.now in
    let low = begun q.frequency (monday_zero q.week_start) c.period_of-begin.result c.args.n (omega (arith, c.period_of-begin.ensures.value)) in
    let up = period_mono q.frequency (monday_zero q.week_start) c.args.n rules_end (omega (arith, c.requires.inside)) in
    record {
      low = omega arith;
      high = omega (arith, up, c.period_of-begin.ensures.value, c.period_of-last.ensures.value);
      day = ap (λ z. z / 86_400) c.first_local.ensures;
      early = omega (arith, low, c.first_local.ensures, c.requires.inside);
      poor = λ x l u. absurd (omega (arith, l, u));
    }

pub first_local-requires-in-loop-number : goal.first_local-requires-in-loop-number
first_local-requires-in-loop-number c =
    let q = c.args.search.now.parts.now in
    let low = begun q.frequency (monday_zero q.week_start) (c.loop-number.number + 1) rules_end
    (omega (arith, c.loop-number-test.true, c.min.ensures, c.period_of-last.ensures.value)) in
    omega (arith, low)

pub overflow_cast-next : goal.overflow_cast-next
overflow_cast-next c =
    let q = c.args.search.now.parts.now in
    let low = begun q.frequency (monday_zero q.week_start) (c.loop-number.number + 1) rules_end
    (omega (arith, c.loop-number-test.true, c.min.ensures, c.period_of-last.ensures.value)) in
    omega (arith, low, c.first_local-in-loop-number.ensures)

pub has_many-requires-clause-order : goal.has_many-requires-clause-order
has_many-requires-clause-order c =
    let q = c.args.search.now.parts.now in
    let up = day_up q.frequency (monday_zero q.week_start) c.loop-number.number in
    omega (arith, up, c.loop-number.invariant.day, c.first_local-in-loop-number.ensures)

pub has_many-requires-clause-end : goal.has_many-requires-clause-end
has_many-requires-clause-end c =
    let q = c.args.search.now.parts.now in
    let low = begun q.frequency (monday_zero q.week_start) (c.loop-number.number + 1) rules_end
    (omega (arith, c.loop-number-test.true, c.min.ensures, c.period_of-last.ensures.value)) in
    omega (arith, low, c.first_local-in-loop-number.ensures)

pub returns-then-has_many-clause-none : goal.returns-then-has_many-clause-none
returns-then-has_many-clause-none c = λ m l u.
    poor_before c.args.search.now.parts.now c.args.search.now.start c.least_position-least.result c.requires.long c.requires.some
    c.least_position-least.ensures.front c.least_position-least.ensures.back c.args.n c.loop-number.number c.loop-number.day c.loop-number.invariant.day
    (omega (arith, c.loop-number.invariant.early))
    (λ x low high. c.loop-number.invariant.poor x (omega (arith, low, c.period_of-begin.ensures.value)) high) m l (omega (arith, l, u, c.max.ensures))

pub loop-number-preserved : goal.loop-number-preserved
loop-number-preserved c =
    let q = c.args.search.now.parts.now in
    let low = begun q.frequency (monday_zero q.week_start) (c.loop-number.number + 1) rules_end
    (omega (arith, c.loop-number-test.true, c.min.ensures, c.period_of-last.ensures.value)) in
    let next = ap (λ z. z / 86_400) c.first_local-in-loop-number.ensures in
    record {
      low = omega (arith, c.loop-number.invariant.low);
      high = omega (arith, c.loop-number-test.true, c.min.ensures);
      day = next;
      early = omega (arith, low, c.first_local-in-loop-number.ensures);
      poor = poor_more q c.least_position-least.result c.period_of-begin.result c.loop-number.number c.loop-number.invariant.poor
          (one_poor q c.least_position-least.result c.loop-number.number c.loop-number.day (c.first_local-in-loop-number.result / 86_400)
          c.loop-number.invariant.day next (c.has_many.ensures c.if-has_many.false));
    }

pub returns-then-number-round-clause-none : goal.returns-then-number-round-clause-none
returns-then-number-round-clause-none c = λ m l u.
    poor_before c.args.search.now.parts.now c.args.search.now.start c.least_position-least.result c.requires.long c.requires.some
    c.least_position-least.ensures.front c.least_position-least.ensures.back c.args.n c.loop-number.number c.loop-number.day c.loop-number.invariant.day
    (omega (arith, c.loop-number.invariant.early))
    (λ x low high. c.loop-number.invariant.poor x (omega (arith, low, c.period_of-begin.ensures.value)) high) m l
    (omega (arith, l, u, c.max-then-number-round.ensures))

pub returns-else-number-round-clause-none : goal.returns-else-number-round-clause-none
returns-else-number-round-clause-none c = λ m l u.
    let q = c.args.search.now.parts.now in
    let up = period_mono q.frequency (monday_zero q.week_start) c.args.n m l in
    poor_none q c.args.search.now.start c.least_position-least.result c.requires.long c.requires.some
    c.least_position-least.ensures.front c.least_position-least.ensures.back m (omega (arith, u))
    (poor_ever q c.least_position-least.result c.period_of-begin.result c.loop-number.number (omega (arith, c.if-begin-lt2.false))
    (omega (arith, c.if-number-round.false, c.calendar_periods.ensures.value)) c.loop-number.invariant.poor (period_in q m)
    (omega (arith, up, c.period_of-begin.ensures.value)))
