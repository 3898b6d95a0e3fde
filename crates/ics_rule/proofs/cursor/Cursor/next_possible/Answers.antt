use Rattle.std.proofs.Common.{◌≡◌, ◌≤◌, ◌+◌, suc, arith}
use Rattle.jiff_core.specs.Weekday.{monday_zero}
use Rattle.ics_period.specs.Candidates.{period_in}
use Rattle.ics_period.proofs.PeriodLemmas.{before_first, begun, is_short, period_mono, period_small}
use Rattle.ics_rule.proofs.QuietLemmas.{held_next, held_none, joined}
use Rattle.ics_rule.proofs.cursor.Cursor.next_possible.Goals as goal
use Rattle.ics_rule.proofs.cursor.Cursor.next_possible.Goals.{After-is_ahead, In-Some, Then-self-end, in-Some+else-self-end+else-self-end-2, in_default}

-- the period held is not past that of the place
late : (c : In-Some) → c.in-Some.period.number ≤ period_in c.args.search.now.parts.now c.args.self.now.place
late c = (rw c.in-Some.is at c.requires.held).1

pub overflow_add-number : goal.overflow_add-number
overflow_add-number c =
    let q = c.args.search.now.parts.now in
    let small = period_small q.frequency (monday_zero q.week_start) c.args.self.now.place (omega (arith, c.requires.place)) in
    omega (arith, small, late (goal.at.overflow_add-number c).In-Some, c.number.ensures)

pub first_local-end-requires : goal.first_local-end-requires
first_local-end-requires c =
    let q = c.args.search.now.parts.now in
    let number = c.in-Some.period.number in
    let short = is_short q.frequency (monday_zero q.week_start) number in
    let low = begun q.frequency (monday_zero q.week_start) number c.args.self.now.place (late (goal.at.first_local-end-requires c).In-Some) in
    let same : suc number ≡ c.number.result + 1 = omega (arith, c.number.ensures) in
    rw (← same) (omega (arith, low, short, c.requires.place))

-- the place is in the period held
here : (c : Then-self-end) → period_in c.args.search.now.parts.now c.args.self.now.place ≡ c.in-Some.period.number
here c =
    let q = c.args.search.now.parts.now in
    let late = (rw c.in-Some.is at c.requires.held).1 in
    let early = before_first q.frequency (monday_zero q.week_start) (c.number.result + 1) c.args.self.now.place
    (omega (arith, c.if-self-end.true, c.first_local-end.ensures)) in
    omega (arith, early, late, c.number.ensures)

pub returns-in-Some-next_taken-clause-none : goal.returns-in-Some-next_taken-clause-none
returns-in-Some-next_taken-clause-none c =
    let held = rw c.in-Some.is at c.requires.held in
    held_next c.args.search.now.start held.0 (here (goal.at.returns-in-Some-next_taken-clause-none c).Then-self-end) c.in-Some-next_taken.ensures.next

pub quiet_from-requires-clause-passed : goal.quiet_from-requires-clause-passed
quiet_from-requires-clause-passed c =
    let q = c.args.search.now.parts.now in
    rw c.in-Some.is (λ n l u. absurd (
    let low = before_first q.frequency (monday_zero q.week_start) (c.number.result + 1) n (omega (arith, u, c.first_local-end.ensures)) in
    omega (arith, low, l, c.number.ensures)))

pub returns-in-None-clause-none : goal.returns-in-None-clause-none
returns-in-None-clause-none c =
    let held = rw c.in-Some.is at c.requires.held in
    let here = here (goal.at.returns-in-None-clause-none c).Then-self-end in
    let none = rw (← c.number.ensures) at (held_none c.args.search.now.start held.0 c.args.self.now.place here c.in-None.ensures.next) in
    joined c.args.search.now.parts.now c.args.search.now.start c.first_local-end.result
    (λ n l u. none n l (omega (arith, u, c.first_local-end.ensures))) c.quiet_from.ensures.none

pub quiet_from-requires-then-self-end-2-clause-passed : goal.quiet_from-requires-then-self-end-2-clause-passed
quiet_from-requires-then-self-end-2-clause-passed c =
    let q = c.args.search.now.parts.now in
    rw c.in-Some.is (λ n l u. absurd (
    let low = before_first q.frequency (monday_zero q.week_start) (c.number.result + 1) n (omega (arith, u, c.first_local-end.ensures)) in
    omega (arith, low, l, c.number.ensures)))

pub returns-then-self-end-2-clause-none : goal.returns-then-self-end-2-clause-none
returns-then-self-end-2-clause-none c =
    λ n l u. c.quiet_from-then-self-end-2.ensures.none n (omega (arith, l, c.if-self-end-2.true)) u

-- the cursor is still as it was
unmoved : (c : After-is_ahead) → c.match-self.self ≡ c.args.self.now
unmoved c = elim c.match-self.branch [ in-Some+else-self-end+else-self-end-2 w ↦ w.self-is | in_default w ↦ w.self-is ]

pub returns-then-is_ahead-clause-none : goal.returns-then-is_ahead-clause-none
returns-then-is_ahead-clause-none c =
    let q = c.args.search.now.parts.now in
    let same = unmoved (goal.at.returns-then-is_ahead-clause-none c).After-is_ahead in
    let ahead = rw same at (c.is_ahead.ensures c.if-is_ahead.true) in
    let own = rw same at c.period_of.ensures.value in
    joined q c.args.search.now.start c.args.self.now.quiet_to
    (λ n l u. let up = period_mono q.frequency (monday_zero q.week_start) c.args.self.now.place n l in
    ahead.none n (omega (arith, up, own, ahead.early)) u)
    (rw same at c.quiet_from-then-is_ahead.ensures.none)

pub returns-else-is_ahead-clause-none : goal.returns-else-is_ahead-clause-none
returns-else-is_ahead-clause-none c = rw (unmoved (goal.at.returns-else-is_ahead-clause-none c).After-is_ahead) at c.next_by_parts.ensures.none
