use Rattle.std.proofs.Common.{rules, arith, ◌≡◌, w32, w64, to_z, of_z, pos, ◌+ℤ◌, ◌-ℤ◌}
use Rattle.std.proofs.lemmas.Int.{ints, clamps, to_z-of_z}
use Rattle.ics_zone.proofs.ZoneSteps.{keep_stays, stay_on}
use Rattle.ics_zone.proofs.latest.next_change.Goals as goal

pub loop-init : goal.loop-init
loop-init c =
    let kept = simp (to_z-of_z, c.ranges.after, c.ranges.offset) at c.next_other-next.ensures.next in
    rw (to_z-of_z w64 c.next_other-next.result (search rules), to_z-of_z w64 c.args.after c.ranges.after, to_z-of_z w32 c.args.offset c.ranges.offset)
    (record { later = omega (arith, ints); in_bound = omega (arith, ints); stay = λ zone all. keep_stays zone (kept zone all) })

pub returns-then-next-lt-FIRST_HELD : goal.returns-then-next-lt-FIRST_HELD
returns-then-next-lt-FIRST_HELD c = simp (to_z-of_z, c.ranges.after, c.ranges.offset) at c.loop.invariant.stay

-- an hour more
pub returns-then-last-limit : goal.returns-then-last-limit
returns-then-last-limit c =
    let was = simp (to_z-of_z, c.ranges.after, c.ranges.offset) at c.loop.invariant.stay in
    let hour = simp (to_z-of_z, c.ranges.offset) at c.stay_after-stay.ensures.stay in
    let before : to_z w64 (of_z w64 (to_z w64 c.loop.next-bits -ℤ pos 1)) ≡ to_z w64 c.loop.next-bits -ℤ pos 1 = omega (arith, ints, clamps) in
    λ zone all. stay_on zone _ (was zone all) (hour zone all) (omega (arith, ints, before)) (omega (arith, ints, clamps, before))

pub loop-preserved : goal.loop-preserved
loop-preserved c =
    let was = simp (to_z-of_z, c.ranges.after, c.ranges.offset) at c.loop.invariant.stay in
    let hour = simp (to_z-of_z, c.ranges.offset) at c.stay_after-stay.ensures.stay in
    let kept = simp (to_z-of_z, c.ranges.offset) at c.next_other-next-in-loop.ensures.next in
    let before : to_z w64 (of_z w64 (to_z w64 c.loop.next-bits -ℤ pos 1)) ≡ to_z w64 c.loop.next-bits -ℤ pos 1 = omega (arith, ints, clamps) in
    let last : to_z w64 (of_z w64 (to_z w64 c.loop.next-bits +ℤ pos 3_599)) ≡ to_z w64 c.loop.next-bits +ℤ pos 3_599 = omega (arith, ints, clamps) in
    let end = to_z w64 c.loop.next-bits +ℤ pos 3_600 in
    rw (to_z-of_z w64 c.next_other-next-in-loop.result (search rules), to_z-of_z w64 c.args.after c.ranges.after, to_z-of_z w32 c.args.offset c.ranges.offset)
    (record {
      later = omega (arith, ints, last);
      in_bound = omega (arith, ints);
      stay = λ zone all.
          stay_on zone _ (stay_on zone end (was zone all) (hour zone all) (omega (arith, ints, before)) (omega (arith, ints, before)))
          (keep_stays zone (kept zone all)) (omega (arith, ints, last)) (omega (arith, ints));
    })

pub returns : goal.returns
returns c = simp (to_z-of_z, c.ranges.after, c.ranges.offset) at c.loop.invariant.stay
