use Rattle.std.proofs.Common.{◌+◌, ◌*◌, ◌/◌, ◌<◌, ◌≤◌, ◌∙◌, ap, arith}
use Rattle.std.proofs.lemmas.Nat.{div-add-mod'}
use Rattle.std.proofs.Math.Nat.{mul-le-mul_right, mul_comm}
use Rattle.jiff_core.specs.Weekday.{monday_zero}
use Rattle.ics_period.specs.Candidates.{period_in}
use Rattle.ics_rule.specs.Inner.Rounds.{seconds_of, chosen_to}
use Rattle.ics_rule.proofs.CountLemmas.{IsCountedStep, step_low}
use Rattle.ics_rule.proofs.EachLemmas.{in_period, total_between}
use Rattle.ics_rule.proofs.PassedLemmas.{counts_from, counted_reach, steps_on, turned_room, total_small, passed_on}
use Rattle.ics_rule.proofs.cursor.Cursor.pass_open.Goals as goal
use Rattle.ics_rule.proofs.cursor.Cursor.pass_open.Goals.{After-chosen_in_open}

-- the period up to which what is chosen is counted
ends : (c : After-chosen_in_open) → IsCountedStep c.args.search.now.parts.now c.args.search.now.start c.in-Some.begin
    (c.counted_from-begin.result.0 + c.args.search.now.parts.now.interval * (c.saturating_sub.result / c.args.search.now.parts.now.interval))
    c.args.self.now.place (c.turn_through.new.self.counted + c.chosen_in_open.result * c.open_between-number.result)
ends c =
    let q = c.args.search.now.parts.now in
    let start = c.args.search.now.start in
    let place = c.args.self.now.place in
    let turned = c.in-Some.ensures.counted.turned in
    let counted = rw c.requires.cursor.some at turned.counted in
    let fine : 0 < seconds_of q.frequency = omega (arith, c.if-unit-eq0.false, c.seconds_of-unit.ensures.value) in
    let unit : seconds_of q.frequency ≤ 86_400 = omega (arith, c.if-unit-gt86400.false, c.seconds_of-unit.ensures.value) in
    let steps = c.saturating_sub.result / q.interval in
    let whole = div-add-mod' c.saturating_sub.result q.interval in
    let up = mul-le-mul_right {m = 64} {n = steps} q.interval c.if-steps-lt-A_SHORT_WALK.false in
    let own = in_period q.frequency (monday_zero q.week_start) place fine unit in
    let top : c.counted_from-begin.result.0 + q.interval * steps ≤ period_in q place =
    omega (arith, whole, c.saturating_sub.ensures, c.period_of.ensures.value, up, c.args.search.now.interval, mul_comm steps q.interval) in
    let high = mul-le-mul_right (seconds_of q.frequency) top in
    record {
      later = omega (arith, c.in-Some.ensures.high, c.if-begin-last.false);
      step = steps_on steps (counts_from c.args.search.now.interval c.requires.cursor c.args.search.now.of_start c.counted_from-begin.ensures);
      top = top;
      total = total_between q start fine unit c.open_between-number.result c.chosen_in_open.ensures
          (rw c.args.search.now.of_start at c.open_between-number.ensures)
          (omega (arith, high, own.0, c.requires.cursor.own.inside)) c.in-Some.ensures.high (counted.total ∙ ap (chosen_to q start) turned.number);
    }

pub turn_through-requires-clause-step : goal.turn_through-requires-clause-step
turn_through-requires-clause-step c = steps_on (c.saturating_sub.result / c.args.search.now.parts.now.interval)
    (counts_from c.args.search.now.interval c.requires.cursor c.args.search.now.of_start c.counted_from-begin.ensures)

pub overflow_mul-total : goal.overflow_mul-total
overflow_mul-total c = let small = total_small (ends c) in omega (arith, small, c.requires.cursor.early)

pub overflow_add-total : goal.overflow_add-total
overflow_add-total c = let small = total_small (ends c) in omega (arith, small, c.requires.cursor.early)

pub look_at-requires-clause-low : goal.look_at-requires-clause-low
look_at-requires-clause-low c = step_low c.args.search.now.parts.now c.args.search.now.start _
    (ends (goal.at.look_at-requires-clause-low c).After-chosen_in_open).step

pub look_at-requires-clause-reach : goal.look_at-requires-clause-reach
look_at-requires-clause-reach c =
    let r = counted_reach (ends (goal.at.look_at-requires-clause-reach c).After-chosen_in_open) in omega (arith, r, c.requires.cursor.early)

pub look_at-requires-clause-room : goal.look_at-requires-clause-room
look_at-requires-clause-room c =
    let r = turned_room c.in-Some.ensures.counted in
    let end = ends (goal.at.look_at-requires-clause-room c).After-chosen_in_open in
    omega (arith, r, end.later, end.top, c.period_of.ensures.value, c.period_of.ensures.small)

pub returns : goal.returns
returns c = passed_on c.requires.cursor c.in-Some.ensures.counted (ends (goal.at.returns c).After-chosen_in_open) c.look_at.ensures.1.0
    c.look_at.ensures.1.1
