use Rattle.std.proofs.Common.{rules, ◌≡◌, ◌≢◌, ℕ, ◌<◌, false, nat_le, arith, pos, ◌<ℤ◌, ◌≤ℤ◌, SFits, w32, w64}
use Rattle.std.proofs.lemmas.Int.{ints, to_z-of_z}
use Rattle.std.proofs.lemmas.Bool.Decides.{nat_tests}
use Rattle.ics_zone.proofs.ZoneSteps.{less_other, less_more, overridden_by}
use Rattle.ics_zone.proofs.latest.overrides.Goals as goal

not_le : (a b : ℕ) → nat_le a b ≡ false → b < a
not_le a b e = grind (arith, nat_tests)

pub loop-other-preserved-then-one-offset : goal.loop-other-preserved-then-one-offset
loop-other-preserved-then-one-offset c =
    let other : c.index-onsets-other.result.offset_to ≢ c.args.offset = search rules in
    let before = simp (to_z-of_z, c.ranges.offset, c.ranges.moment) at c.loop-other.invariant in
    rw (to_z-of_z w32 c.args.offset c.ranges.offset, to_z-of_z w64 c.args.moment c.ranges.moment) (λ zone all.
    less_other all c.loop-other-test.true c.index-onsets-other.is (before zone all) other)

pub loop-other-preserved : goal.loop-other-preserved
loop-other-preserved c =
    let late : SFits w64 c.args.onset.at = search rules in
    let before = simp (to_z-of_z, c.ranges.offset, c.ranges.moment) at c.loop-other.invariant in
    let less = simp (to_z-of_z, late, c.ranges.moment) at (c.has_not_less.ensures c.if-has_not_less.false) in
    rw (to_z-of_z w32 c.args.offset c.ranges.offset, to_z-of_z w64 c.args.moment c.ranges.moment) (λ zone all.
    less_more all c.loop-other-test.true c.index-onsets-other.is (before zone all) (nat_le c.args.onset.place c.loop-other.other)
    (λ e. not_le c.args.onset.place c.loop-other.other e) less)

pub returns : goal.returns
returns c =
    let late : SFits w64 c.args.onset.at = search rules in
    let before = simp (to_z-of_z, c.ranges.offset, c.ranges.moment) at c.loop-other.invariant in
    let not_after = simp (to_z-of_z, late, c.ranges.moment) at c.if-onset-moment.false in
    let early = simp (to_z-of_z, c.ranges.moment) at c.if-moment-ge9223372036854775807.false in
    let before_last : c.args.onset.at <ℤ pos 9_223_372_036_854_775_807 = omega (arith, ints, not_after, early) in
    let by : c.args.onset.at ≤ℤ c.args.moment = omega (arith, ints, not_after) in
    λ e zone all onset. overridden_by all c.loop-other-test.false (onset before_last) by (before zone all)
