use Rattle.std.proofs.Common.{rules, arith, SFits, w32, w64, refl}
use Rattle.std.proofs.lemmas.Int.{ints, to_z-of_z}
use Rattle.ics_zone.proofs.ZoneSteps.{first_here, first_now, first_before}
use Rattle.ics_zone.proofs.latest.first_offset.Goals as goal

pub loop-place-init : goal.loop-place-init
loop-place-init c = λ zone all.
    rw (to_z-of_z w64 c.first-first.result (search rules), to_z-of_z w32 c.index-onsets-0.result.offset_from (search rules))
    (first_here all c.requires.some c.index-onsets-0.is (omega arith) c.first-first.ensures.is refl (λ i s p l h. absurd (omega arith)))

pub loop-place-preserved-then-first-at : goal.loop-place-preserved-then-first-at
loop-place-preserved-then-first-at c = λ zone all.
    first_before all c.loop-place-test.true c.index-onsets-place.is c.first-at.ensures.is c.first-at.ensures.first (c.loop-place.invariant zone all)
    (omega (arith, ints, to_z-of_z w64 c.first-at.result (search rules)))

pub loop-place-preserved : goal.loop-place-preserved
loop-place-preserved c = λ zone all.
    let small : SFits w64 c.first-at.result = search rules in
    rw (to_z-of_z w64 c.first-at.result small)
    (first_now all c.loop-place-test.true c.index-onsets-place.is c.first-at.ensures.is c.first-at.ensures.first (c.loop-place.invariant zone all)
    (omega (arith, ints)) (to_z-of_z w32 c.index-onsets-place.result.offset_from (search rules)))
