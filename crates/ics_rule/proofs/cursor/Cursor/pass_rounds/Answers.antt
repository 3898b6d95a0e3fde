use Rattle.std.proofs.Common.{◌+◌, ◌-◌, ◌*◌, ◌/◌, ◌≤◌, arith}
use Rattle.std.proofs.lemmas.Nat.{div-add-mod'}
use Rattle.std.proofs.Math.Nat.{mul-le-mul_right}
use Rattle.ics_rule.proofs.CountLemmas.{IsCountedStep, step_low}
use Rattle.ics_rule.proofs.PassedLemmas.{counts_from, first_step, rounds_end, counted_reach, turned_room, total_small, passed_on}
use Rattle.ics_rule.proofs.cursor.Cursor.pass_rounds.Goals as goal
use Rattle.ics_rule.proofs.cursor.Cursor.pass_rounds.Goals.{Else-number-end}

pub overflow_add-end : goal.overflow_add-end
overflow_add-end c = grind (arith, div-add-mod', mul-le-mul_right)

pub turn_through-requires-clause-end : goal.turn_through-requires-clause-end
turn_through-requires-clause-end c = grind (arith, div-add-mod', mul-le-mul_right)

pub turn_through-requires-clause-step : goal.turn_through-requires-clause-step
turn_through-requires-clause-step c = first_step (c.in-Some.ensures c.args.search.now.start)
    (counts_from c.args.search.now.interval c.requires.cursor c.args.search.now.of_start c.counted_from-begin.ensures)

-- what is counted up to the period that is whole rounds after the first
ends : (c : Else-number-end) → (c.counted_from-begin.result.1 ≤ c.turn_through.new.self.counted)
    × IsCountedStep c.args.search.now.parts.now c.args.search.now.start (c.counted_from-begin.result.0 + c.in-Some.round)
    (c.counted_from-begin.result.0 + c.saturating_sub-ahead.result / c.in-Some.round * c.in-Some.round) c.args.self.now.place
    (c.counted_from-begin.result.1 + c.saturating_sub-ahead.result / c.in-Some.round * (c.turn_through.new.self.counted - c.counted_from-begin.result.1))
ends c =
    let turned = c.in-Some-turn_through.ensures.counted.turned in
    let counted = rw c.requires.cursor.some at turned.counted in
    rounds_end (c.in-Some.ensures c.args.search.now.start)
    (counts_from c.args.search.now.interval c.requires.cursor c.args.search.now.of_start c.counted_from-begin.ensures)
    (c.if-begin-lt2.false, c.if-rounds-lt2.false) (grind (arith, div-add-mod')) c.requires.cursor.early
    (rw (turned.number, c.if-number-end.false) at counted.total)

pub overflow_sub-total : goal.overflow_sub-total
overflow_sub-total c = (ends c).0

pub overflow_mul-total : goal.overflow_mul-total
overflow_mul-total c = let small = total_small (ends c).1 in omega (arith, small, c.requires.cursor.early)

pub overflow_add-total : goal.overflow_add-total
overflow_add-total c = let small = total_small (ends c).1 in omega (arith, small, c.requires.cursor.early)

pub look_at-requires-clause-low : goal.look_at-requires-clause-low
look_at-requires-clause-low c = step_low c.args.search.now.parts.now c.args.search.now.start _
    (ends (goal.at.look_at-requires-clause-low c).Else-number-end).1.step

pub look_at-requires-clause-reach : goal.look_at-requires-clause-reach
look_at-requires-clause-reach c = let r = counted_reach (ends (goal.at.look_at-requires-clause-reach c).Else-number-end).1 in
    omega (arith, r, c.requires.cursor.early)

pub look_at-requires-clause-room : goal.look_at-requires-clause-room
look_at-requires-clause-room c =
    let r = turned_room c.in-Some-turn_through.ensures.counted in
    let end = (ends (goal.at.look_at-requires-clause-room c).Else-number-end).1 in
    omega (arith, r, end.later, end.top, c.period_of.ensures.value, c.period_of.ensures.small)

pub returns : goal.returns
returns c = passed_on c.requires.cursor (rw c.if-number-end.false at c.in-Some-turn_through.ensures.counted) (ends (goal.at.returns c).Else-number-end).1
    c.look_at.ensures.1.0 c.look_at.ensures.1.1

pub nonzero_div-rounds : goal.nonzero_div-rounds
nonzero_div-rounds c = let is = c.in-Some.ensures c.args.search.now.start in let some = is.some in omega (arith, some)
