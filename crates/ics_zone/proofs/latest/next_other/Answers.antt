use Rattle.std.proofs.Common.{rules, ◌≡◌, arith, w32, w64}
use Rattle.std.proofs.lemmas.Int.{ints, to_z-of_z}
use Rattle.std.proofs.lemmas.Option.{slice_get_within}
use Rattle.ics_zone.proofs.ZoneSteps.{none_kept, same_kept}
use Rattle.ics_zone.proofs.latest.next_other.Goals as goal

pub loop-one-preserved-then-one-offset : goal.loop-one-preserved-then-one-offset
loop-one-preserved-then-one-offset c =
    let same : c.one-item.result.offset_to ≡ c.args.offset = search rules in
    let kept = simp (to_z-of_z, c.ranges.offset) at c.loop-one.invariant.none in
    rw (to_z-of_z w32 c.args.offset c.ranges.offset) (record {
      later = c.loop-one.invariant.later;
      in_bound = c.loop-one.invariant.in_bound;
      none = λ zone all. same_kept all c.loop-one-test.true c.one-item.is same (kept zone all);
    })

pub loop-one-preserved : goal.loop-one-preserved
loop-one-preserved c =
    let first = simp (to_z-of_z, c.ranges.after) at c.next-next.ensures.next in
    let none = simp (to_z-of_z, c.ranges.after, c.ranges.offset) at c.loop-one.invariant.none in
    rw (to_z-of_z w64 c.next-next.result (search rules), to_z-of_z w64 c.args.after c.ranges.after, to_z-of_z w32 c.args.offset c.ranges.offset) (record {
      later = simp (to_z-of_z, c.ranges.after) at c.next-next.ensures.after;
      in_bound = omega (arith, ints);
      none = λ zone all. none_kept all c.loop-one-test.true c.one-item.is c.next-next.ensures.bound first (none zone all);
    })

pub returns-clause-next : goal.returns-clause-next
returns-clause-next c = λ zone all i s p h late.
    let none = simp (to_z-of_z, c.ranges.after, c.ranges.offset) at c.loop-one.invariant.none in
    none zone all i s p (omega (arith, slice_get_within zone i p h.0)) h late
