use Rattle.std.proofs.Common.{rules, arith, pos, ◌+ℤ◌, w64, to_z, of_z}
use Rattle.std.proofs.lemmas.Int.{ints, to_z-of_z}
use Rattle.ics_zone.proofs.JumpLemmas.{natural_less}
use Rattle.ics_zone.proofs.observed.Observed.clear_hours.Goals as goal

pub loop-at-smaller : goal.loop-at-smaller
loop-at-smaller c = natural_less (to_z w64 (of_z w64 c.args.seconds) +ℤ pos 86_401) (to_z w64 c.loop-at.at-bits)
    (to_z w64 (of_z w64 c.clear_to-next.result)) (omega (arith, ints)) (omega (arith, ints))

pub returns-then-next-at : goal.returns-then-next-at
returns-then-next-at c =
    rw (to_z-of_z w64 c.clear_to-next.result (search rules))
    (record { low = omega (arith, ints); high = omega (arith, ints); earlier = simp (to_z-of_z, c.ranges.seconds) at c.clear_to-next.ensures.earlier })

pub loop-at-preserved : goal.loop-at-preserved
loop-at-preserved c =
    rw (to_z-of_z w64 c.clear_to-next.result (search rules))
    (record { low = omega (arith, ints); high = c.clear_to-next.ensures.high; earlier = c.clear_to-next.ensures.earlier })

pub loop-at-init : goal.loop-at-init
loop-at-init c =
    rw (to_z-of_z w64 c.args.seconds c.ranges.seconds, to_z-of_z w64 c.args.after c.ranges.after)
    (record { low = omega (arith, ints); high = c.requires.high; earlier = c.requires.earlier })

pub overflow_add-seconds : goal.overflow_add-seconds
overflow_add-seconds c = omega (arith, ints)

pub clear_to-next-requires : goal.clear_to-next-requires
clear_to-next-requires c =
    rw (to_z-of_z w64 c.args.seconds c.ranges.seconds) (record {
      bound = c.requires.bound;
      low = omega (arith, ints);
      high = omega (arith, ints);
      skipped = c.requires.skipped;
      earlier = simp (to_z-of_z, c.ranges.seconds) at c.loop-at.invariant.earlier;
    })

pub overflow_add-at : goal.overflow_add-at
overflow_add-at c = omega (arith, ints)

pub returns : goal.returns
returns c = record { low = omega (arith, ints); high = omega (arith, ints); earlier = simp (to_z-of_z, c.ranges.seconds) at c.loop-at.invariant.earlier }
