use Rattle.std.proofs.Common.{arith, ◌≡◌, pos, ◌+ℤ◌, to_z, of_z, w64}
use Rattle.std.proofs.lemmas.Int.{ints, to_z-of_z}
use Rattle.ics_zone.proofs.EachSecondLemmas.{same_on}
use Rattle.ics_zone.proofs.seconds.OffsetEachSecond.same_to.Goals as goal

pub returns-then-not-is_told-clause-same : goal.returns-then-not-is_told-clause-same
returns-then-not-is_told-clause-same c = simp (to_z-of_z, c.ranges.at, c.ranges.offset) at c.loop-next.invariant.same

pub loop-next-preserved : goal.loop-next-preserved
loop-next-preserved c =
    let next : to_z w64 (of_z w64 (to_z w64 c.loop-next.next-bits +ℤ pos 1)) ≡ to_z w64 c.loop-next.next-bits +ℤ pos 1 = omega (arith, ints) in
    record {
      from = omega (arith, ints);
      end = omega (arith, ints);
      same = λ clock told. same_on clock _ _ _ _ (c.loop-next.invariant.same clock told) (c.is_told.ensures c.if-not-is_told.false clock told) _ next;
    }

pub returns-clause-same : goal.returns-clause-same
returns-clause-same c = simp (to_z-of_z, c.ranges.at, c.ranges.offset) at c.loop-next.invariant.same
