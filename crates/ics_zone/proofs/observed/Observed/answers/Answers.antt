use Rattle.std.proofs.Common.{arith}
use Rattle.ics_zone.proofs.observed.Observed.answers.Goals as goal

pub loop-k-init : goal.loop-k-init
loop-k-init c = record { inside = omega arith; short = omega arith; right = λ k d h. absurd (omega arith) }

-- a group more
pub loop-k-smaller-in-Some : goal.loop-k-smaller-in-Some
loop-k-smaller-in-Some c = omega (arith, c.group_end-end.ensures.some, c.group_end-end.ensures.bound, c.loop-k.invariant.short)

pub loop-k-preserved-in-Some : goal.loop-k-preserved-in-Some
loop-k-preserved-in-Some c =
    record { inside = c.group_end-end.ensures.bound; short = c.loop-k.invariant.short; right = c.answer_group.ensures }

-- or a shorter one is tried
pub loop-k-smaller : goal.loop-k-smaller
loop-k-smaller c = omega (arith, c.loop-k.invariant.short)

pub loop-k-preserved : goal.loop-k-preserved
loop-k-preserved c = record { inside = c.loop-k.invariant.inside; short = omega (arith, c.loop-k.invariant.short); right = c.answer_group.ensures }
