use Rattle.std.proofs.Common.{rules, arith, ◌<◌, length, ◌-ℤ◌, ◌<ℤ◌, ◌≤ℤ◌, SFits, get_or, pos, w32, w64}
use Rattle.std.proofs.lemmas.Int.{ints, to_z-of_z}
use Rattle.ics_zone.specs.declared.latest.Steady.{Steady}
use Rattle.ics_zone.proofs.GapLemmas.{unpassed_begins, unpassed_on, jump_at}
use Rattle.ics_zone.proofs.gap_stretch.jump_over.Goals as goal

pub loop-k-init : goal.loop-k-init
loop-k-init c = record {
  some = omega (arith, ints, c.in_ok-last.ensures.over.0, c.in_ok-last.ensures.over.1);
  unpassed = λ offset all most. rw (to_z-of_z w64 c.args.seconds c.ranges.seconds)
      (unpassed_begins c.in_ok-last.last (c.in_ok-last.ensures.steady offset all) (rw (to_z-of_z w32 c.args.most c.ranges.most) at most)
      (omega (arith, ints, c.in_ok-last.ensures.over.0, c.shown_at-at.ensures)));
}

pub returns-then-begins_later-clause-later : goal.returns-then-begins_later-clause-later
returns-then-begins_later-clause-later c =
    let span : Steady = get_or c.args.spans.now c.loop-k.k (record { from = pos 0; next = pos 0; offset = pos 0 }) in
    let from : SFits w64 span.from = search rules in
    let value : SFits w32 span.offset = search rules in
    let later : (c.args.seconds -ℤ span.offset) <ℤ span.from =
    rw (to_z-of_z w64 c.args.seconds c.ranges.seconds) at (c.begins_later.ensures c.if-begins_later.true) in
    rw (to_z-of_z w64 span.from from, to_z-of_z w32 span.offset value) (omega (arith, ints, later))

pub returns-then-begins_later-clause-jump : goal.returns-then-begins_later-clause-jump
returns-then-begins_later-clause-jump c = λ offset all most.
    let span : Steady = get_or c.args.spans.now c.loop-k.k (record { from = pos 0; next = pos 0; offset = pos 0 }) in
    let inside : c.loop-k.k < length c.args.spans.now = omega (arith, c.loop-k-test.true) in
    let from : SFits w64 span.from = search rules in
    let value : SFits w32 span.offset = search rules in
    let before : SFits w32 c.loop-k.last.offset = search rules in
    let more : span.from <ℤ span.next = c.follows.ensures.some c.if-not-follows.false in
    let later : (c.args.seconds -ℤ span.offset) <ℤ span.from =
    rw (to_z-of_z w64 c.args.seconds c.ranges.seconds) at (c.begins_later.ensures c.if-begins_later.true) in
    let known = c.loop-k.invariant.unpassed offset all (rw (← to_z-of_z w32 c.args.most c.ranges.most) at most) in
    let passed : c.loop-k.last.next ≤ℤ (c.args.seconds -ℤ c.loop-k.last.offset) =
    rw (to_z-of_z w64 c.args.seconds c.ranges.seconds) at (c.follows.ensures.passed c.if-not-follows.false) in
    rw (to_z-of_z w64 span.from from, to_z-of_z w32 c.loop-k.last.offset before, to_z-of_z w32 span.offset value)
    (jump_at span (rw (to_z-of_z w64 c.args.seconds c.ranges.seconds) at known)
    passed (all c.loop-k.k _ inside) (c.follows.ensures.on c.if-not-follows.false) c.loop-k.invariant.some more later)

pub loop-k-preserved : goal.loop-k-preserved
loop-k-preserved c =
    let span : Steady = get_or c.args.spans.now c.loop-k.k (record { from = pos 0; next = pos 0; offset = pos 0 }) in
    let inside : c.loop-k.k < length c.args.spans.now = omega (arith, c.loop-k-test.true) in
    record {
      some = c.follows.ensures.some c.if-not-follows.false;
      unpassed = λ offset all most.
          unpassed_on span (c.loop-k.invariant.unpassed offset all most) (c.follows.ensures.passed c.if-not-follows.false)
          (all c.loop-k.k _ inside) (c.follows.ensures.on c.if-not-follows.false);
    }
