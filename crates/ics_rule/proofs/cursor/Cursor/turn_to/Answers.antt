use Rattle.std.proofs.Common.{◌≡◌, ℕ, ◌+◌, ◌-◌, ◌∙◌, Some, inl, inr, ap, refl, arith}
use Rattle.ics_rule.specs.Inner.Searches.{IsPassed}
use Rattle.ics_rule.proofs.CursorLemmas.{looks_once}
use Rattle.ics_rule.proofs.CountLemmas.{IsLeft, step_low, turned_first, turned_on, counted_out, counted_small}
use Rattle.ics_rule.proofs.cursor.Cursor.turn_to.Goals as goal
use Rattle.ics_rule.proofs.cursor.Cursor.turn_to.Goals.{After-taken_before, In-Some-held}

pub look_at-requires-clause-low : goal.look_at-requires-clause-low
look_at-requires-clause-low c = step_low c.args.search.now.parts.now c.args.search.now.start c.args.number c.requires.step

pub look_at-requires-in_default-count-2-clause-low : goal.look_at-requires-in_default-count-2-clause-low
look_at-requires-in_default-count-2-clause-low c = step_low c.args.search.now.parts.now c.args.search.now.start c.args.number c.requires.step

pub look_at-requires-2-clause-low : goal.look_at-requires-2-clause-low
look_at-requires-2-clause-low c = step_low c.args.search.now.parts.now c.args.search.now.start c.args.number c.requires.step

pub returns-in_default-count-clause-looks : goal.returns-in_default-count-clause-looks
returns-in_default-count-clause-looks c = looks_once 0 c.args.self.now c.look_at.ensures.0 (grind arith) c.look_at.ensures.1.0 c.look_at.ensures.1.1.1

pub returns-in_default-clause-looks : goal.returns-in_default-clause-looks
returns-in_default-clause-looks c =
    let at = looks_once 0 c.args.self.now c.look_at.ensures.0 (grind arith) c.look_at.ensures.1.0 c.look_at.ensures.1.1.1 in
    record { place = at.place; looks = at.looks; begun = at.begun; steps = at.steps }

-- the period held is the one looked at
first : (c : In-Some-held) → c.look_at.ensures.0 ≡ c.in-Some-held.period
first c = let held = rw c.look_at.ensures.1.0 at c.in-Some-held.is in grind arith

pub returns-in_default-clause-turned : goal.returns-in_default-clause-turned
returns-in_default-clause-turned c = λ yes.
    let turn = rw (c.in_default.is, c.in-Some-count.is) at c.requires.turn.passed in
    let some = c.args.search.now.some _ c.in-Some-count.is in
    let own = rw (first (goal.at.returns-in_default-clause-turned c).In-Some-held) at c.look_at.ensures.1 in
    rw (c.in-Some-count.is, own.0)
    (turned_first c.args.self.now some turn c.requires.step own.1 (ap (λ x. c.in-Some-count.count - 1 + x) c.taken_before-through.ensures.value))

pub returns-in_default-count-2-clause-looks : goal.returns-in_default-count-2-clause-looks
returns-in_default-count-2-clause-looks c =
    let held = rw c.in-Some.is at c.requires.turn.held in
    looks_once 0 c.args.self.now c.look_at-in_default-count-2.ensures.0 (grind arith) c.look_at-in_default-count-2.ensures.1.0
    c.look_at-in_default-count-2.ensures.1.1.1

-- the period held is left for a later one
left : (c : After-taken_before) {k : ℕ} → c.args.search.now.count ≡ Some k → IsLeft c.args.search.now.parts.now c.args.search.now.start k c.args.number
    c.taken_before.result c.args.self.now.counted c.args.self.now.limit c.in-Some.period
left c e =
    let held = rw c.in-Some.is at c.requires.turn.held in
    let passed = rw (e, c.in-Some.is) at c.requires.turn.passed in record {
      quiet_to = c.args.self.now.quiet_to;
      some = c.args.search.now.interval;
      own = held.0;
      counted = rw (e, c.in-Some.is) at c.requires.turn.counted;
      passed = elim passed [ inl same ↦ absurd (c.if-number.false (c.number.ensures ∙ same)) | inr on ↦ on ];
      reach = omega (arith, c.requires.reach);
      taken = c.taken_before.ensures.value;
    }

pub overflow_add-counted : goal.overflow_add-counted
overflow_add-counted c =
    let is = left c c.in-Some-count-2.is in
    let small = counted_small c.args.number is.counted (let up = is.passed.up in omega (arith, up)) c.requires.step c.requires.reach in
    omega (arith, small, c.taken_before.ensures.bound)

pub returns-then-counted-self-clause-out : goal.returns-then-counted-self-clause-out
returns-then-counted-self-clause-out c = λ no.
    let left = left (goal.at.returns-then-counted-self-clause-out c).After-taken_before c.in-Some-count-2.is in
    record { same = refl; none = rw c.in-Some-count-2.is (counted_out left c.if-counted-self.true) }

pub returns-clause-looks : goal.returns-clause-looks
returns-clause-looks c =
    let up = IsPassed.up (IsLeft.passed (left (goal.at.returns-clause-looks c).After-taken_before c.in-Some-count-2.is)) in
    looks_once (c.args.self.now.counted + c.taken_before.result) c.args.self.now c.look_at-2.ensures.0 (grind arith) c.look_at-2.ensures.1.0
    c.look_at-2.ensures.1.1.1

pub returns-clause-turned : goal.returns-clause-turned
returns-clause-turned c = λ yes.
    let left = left (goal.at.returns-clause-turned c).After-taken_before c.in-Some-count-2.is in
    rw (c.in-Some-count-2.is, c.look_at-2.ensures.1.0)
    (turned_on c.args.self.now left c.requires.step c.look_at-2.ensures.1.1.0 c.look_at-2.ensures.1.1.1)
