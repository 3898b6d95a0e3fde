use Rattle.std.proofs.Common.{arith, pos, ◌+ℤ◌}
use Rattle.std.proofs.lemmas.Int.{ints, clamps, to_z-of_z}
use Rattle.ics_zone.proofs.ZoneSteps.{all_sound}
use Rattle.ics_zone.proofs.JumpLemmas.{earlier_before_next}
use Rattle.ics_zone.proofs.observed.Observed.clear_to.Goals as goal

pub clear_after-clear-requires-clause-sound : goal.clear_after-clear-requires-clause-sound
clear_after-clear-requires-clause-sound c = rw c.deref.ensures.value (all_sound _ _ c.self.invariant.asked)

pub returns-clause-earlier : goal.returns-clause-earlier
returns-clause-earlier c = λ t l.
    let known = rw c.self.view_is at c.self.invariant in
    let clear = rw c.deref.ensures.value at (simp (to_z-of_z, c.ranges.seconds, c.ranges.after) at c.clear_after-clear.ensures.clear) in
    earlier_before_next c.args.self.now known.some c.args.seconds c.requires.skipped
    c.args.after (c.args.after +ℤ c.clear_after-clear.result +ℤ pos 1) c.requires.earlier (clear c.args.self.now.said.items known.asked) t
    (omega (arith, ints, clamps))

pub returns-clause-low : goal.returns-clause-low
returns-clause-low c = omega (arith, ints, clamps)
