use Rattle.std.proofs.Common.{◌∙◌, ◌-◌, ◌≤◌, Some, sym, arith}
use Rattle.jiff_core.specs.Weekday.{monday_zero}
use Rattle.ics_period.specs.Candidates.{period_in}
use Rattle.ics_period.proofs.PeriodLemmas.{period_mono}
use Rattle.ics_rule.specs.Inner.Searches.{IsTurned, IsWalked}
use Rattle.ics_rule.proofs.ChosenLemmas.{taken_within}
use Rattle.ics_rule.proofs.CursorLemmas.{held_is}
use Rattle.ics_rule.proofs.WalkLemmas.{walk_ends, walk_finds, walk_found, walk_goes_on, walk_out, walk_reach, walk_stopped, walk_stops}
use Rattle.ics_rule.proofs.NeverLemmas.{none_walked}
use Rattle.ics_rule.proofs.cursor.Cursor.walk.Goals as goal
use Rattle.ics_rule.proofs.cursor.Cursor.walk.Goals.{In-Some, In-Some-next_taken}

pub returns-then-chooses_none-clause-walked : goal.returns-then-chooses_none-clause-walked
returns-then-chooses_none-clause-walked c = none_walked c.args.stop c.requires.place c.requires.own

pub turn_to-requires-clause-reach : goal.turn_to-requires-clause-reach
turn_to-requires-clause-reach c = grind (arith, walk_reach)

pub returns-then-not-turn_to-clause-next : goal.returns-then-not-turn_to-clause-next
returns-then-not-turn_to-clause-next c = let out = c.turn_to.ensures.out c.if-not-turn_to.true in walk_out c.loop-number.invariant out.none

-- the period turned to is the one with the number
own : (c : In-Some) → IsTurned c.args.search.now.parts.now c.args.search.now.start c.args.search.now.count c.loop-number.number
    c.turn_to.new.self c.in-Some.period
own c = held_is _ c.in-Some.is (c.turn_to.ensures.turned c.if-not-turn_to.false)

top : (c : In-Some) → c.loop-number.number ≤ period_in c.args.search.now.parts.now (c.args.stop - 1)
top c = omega (arith, c.loop-number-test.true, c.last_to_look_at-end.ensures.high, c.period_of-last.ensures.value)

found : (c : In-Some-next_taken) → IsWalked c.args.search.now.parts.now c.args.search.now.start c.args.search.now.count c.args.stop
    (Some c.in-Some-next_taken.n) c.args.self.now c.turn_to.new.self
found c = walk_found c.loop-number.invariant (held_is _ c.in-Some.is (c.turn_to.ensures.turned c.if-not-turn_to.false)) c.turn_to.ensures.looks
    (omega (arith, c.loop-number-test.true, c.last_to_look_at-end.ensures.high, c.period_of-last.ensures.value)) c.in-Some-next_taken.ensures.next

pub next_taken-requires-clause-own : goal.next_taken-requires-clause-own
next_taken-requires-clause-own c = let at = goal.at.next_taken-requires-clause-own c in (c.args.search.now.parts.now, (own at.In-Some).product)

pub is_counted_out-out-requires-clause-held : goal.is_counted_out-out-requires-clause-held
is_counted_out-out-requires-clause-held c = (found (goal.at.is_counted_out-out-requires-clause-held c).In-Some-next_taken).found.0

pub is_counted_out-out-requires-clause-counted : goal.is_counted_out-out-requires-clause-counted
is_counted_out-out-requires-clause-counted c = (found (goal.at.is_counted_out-out-requires-clause-counted c).In-Some-next_taken).counted

pub returns-then-out-clause-next : goal.returns-then-out-clause-next
returns-then-out-clause-next c =
    let at = goal.at.returns-then-out-clause-next c in
    walk_stops c.loop-number.invariant (own at.In-Some) c.turn_to.ensures.looks (top at.In-Some) c.in-Some-next_taken.ensures.next
    (c.is_counted_out-out.ensures.out c.if-out.true)

pub returns-then-out-clause-walked : goal.returns-then-out-clause-walked
returns-then-out-clause-walked c = let at = goal.at.returns-then-out-clause-walked c in
    walk_stopped c.loop-number.invariant (own at.In-Some) c.turn_to.ensures.looks (top at.In-Some)

pub returns-else-out-clause-next : goal.returns-else-out-clause-next
returns-else-out-clause-next c =
    let at = goal.at.returns-else-out-clause-next c in
    walk_finds c.loop-number.invariant (own at.In-Some) c.turn_to.ensures.looks (top at.In-Some) c.in-Some-next_taken.ensures.next
    (c.is_counted_out-out.ensures.kept c.if-out.false (found at.In-Some-next_taken).found.1.1)

pub returns-else-out-clause-walked : goal.returns-else-out-clause-walked
returns-else-out-clause-walked c = found (goal.at.returns-else-out-clause-walked c).In-Some-next_taken

pub loop-number-preserved : goal.loop-number-preserved
loop-number-preserved c =
    let at = goal.at.loop-number-preserved c in
    let turned = own at.In-Some in
    let walk = c.loop-number.invariant in
    walk_goes_on walk turned c.turn_to.ensures.looks (top at.In-Some)
    (λ n l. sym (taken_within c.args.search.now.start turned.product turned.number walk.step n)
    ∙ c.in_default-next_taken.ensures.next n (omega (arith, l, c.turn_to.ensures.looks.place, walk.moved.place)))
    (rw (c.args.search.now.of_start, turned.number) at c.next_step_after-number.ensures)

pub returns-clause-next : goal.returns-clause-next
returns-clause-next c =
    let q = c.args.search.now.parts.now in
    let low = period_mono q.frequency (monday_zero q.week_start) c.args.search.now.start c.args.self.now.place (omega (arith, c.requires.after)) in
    walk_ends c.loop-number.invariant {begin = c.period_of-own.result} {end = c.last_to_look_at-end.result} c.requires.stop
    c.loop-number-test.false (omega (arith, low, c.period_of-own.ensures.value)) (omega (arith, c.period_of-own.ensures.value))
    (λ less. c.last_to_look_at-end.ensures.round (omega (arith, less, c.period_of-last.ensures.value)))
