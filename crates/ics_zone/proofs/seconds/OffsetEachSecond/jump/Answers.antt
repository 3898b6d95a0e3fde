use Rattle.std.proofs.Common.{rules, arith, refl, ◌≡◌, ◌≤ℤ◌, ◌<ℤ◌, pos, ◌+ℤ◌, ◌-ℤ◌, SFits, w64}
use Rattle.std.proofs.lemmas.Int.{ints, to_z-of_z}
use Rattle.ics_zone.proofs.EachSecondLemmas.{earlier_on, first_jump}
use Rattle.ics_zone.proofs.seconds.OffsetEachSecond.jump.Goals as goal
use Rattle.ics_zone.proofs.seconds.OffsetEachSecond.jump.Goals.{In_ok-turn}

-- so many seconds after the first
at_turn : (c : In_ok-turn) → c.in_ok-turn.turn.at ≡ (c.args.seconds -ℤ c.args.most) +ℤ pos c.loop-k.k
at_turn c =
    let begun : c.instant_at-begun.result ≡ c.args.seconds -ℤ c.args.most =
    simp (to_z-of_z, c.ranges.seconds, c.ranges.most) at c.instant_at-begun.ensures in
    let first : SFits w64 c.instant_at-begun.result = search rules in
    let at : c.later_by-at.result ≡ c.instant_at-begun.result +ℤ pos c.loop-k.k = simp (to_z-of_z, first) at c.later_by-at.ensures in
    let here : SFits w64 c.later_by-at.result = search rules in
    let is : c.in_ok-turn.turn.at ≡ c.later_by-at.result = simp (to_z-of_z, here) at c.in_ok-turn.ensures.at in
    rw (is, at, begun) refl

pub shows_later-requires : goal.shows_later-requires
shows_later-requires c =
    let is = at_turn (goal.at.shows_later-requires c).In_ok-turn in
    (omega (arith, ints, is), omega (arith, ints, is))

pub returns-then-shows_later-clause-later : goal.returns-then-shows_later-clause-later
returns-then-shows_later-clause-later c = rw c.if-shows_later.true at (simp (to_z-of_z, c.ranges.seconds) at c.shows_later.ensures)

pub returns-then-shows_later-clause-jump : goal.returns-then-shows_later-clause-jump
returns-then-shows_later-clause-jump c = λ offset told most.
    let turn = c.in_ok-turn.turn in
    let is = at_turn (goal.at.returns-then-shows_later-clause-jump c).In_ok-turn in
    let after : turn.offset ≡ offset turn.at = rw (← c.in_ok-turn.ensures.at) at (c.in_ok-turn.ensures.after offset told) in
    let earlier = simp (to_z-of_z, c.ranges.seconds, c.ranges.most) at (c.loop-k.invariant offset told) in
    let before : turn.before ≡ offset (turn.at -ℤ pos 1) = rw (← c.in_ok-turn.ensures.at) at (c.in_ok-turn.ensures.before offset told) in
    let later : c.args.seconds <ℤ (turn.at +ℤ turn.offset) = rw c.if-shows_later.true at (simp (to_z-of_z, c.ranges.seconds) at c.shows_later.ensures) in
    record {
      jump = first_jump (c.args.seconds -ℤ c.args.most) turn.at refl most (λ t low high. earlier t low (rw is at high)) (rw after at later);
      before = before;
      after = after;
    }

pub loop-k-preserved : goal.loop-k-preserved
loop-k-preserved c = λ offset told t low high.
    let turn = c.in_ok-turn.turn in
    let is = at_turn (goal.at.loop-k-preserved c).In_ok-turn in
    let after : turn.offset ≡ offset turn.at = rw (← c.in_ok-turn.ensures.at) at (c.in_ok-turn.ensures.after offset told) in
    let earlier = simp (to_z-of_z, c.ranges.seconds, c.ranges.most) at (c.loop-k.invariant offset told) in
    let not : (turn.at +ℤ turn.offset) ≤ℤ c.args.seconds = rw c.if-shows_later.false at (simp (to_z-of_z, c.ranges.seconds) at c.shows_later.ensures) in
    rw (to_z-of_z w64 c.args.seconds c.ranges.seconds) (earlier_on offset (c.args.seconds -ℤ c.args.most) c.args.seconds turn.at
    (λ u from to. earlier u from (rw is at to)) (rw after at not) t (omega (arith, ints, low)) (omega (arith, ints, is, high)))
