use Rattle.std.proofs.Common.{rules, arith, ◌≡◌, pos, ◌+ℤ◌, w32, w64, to_z, of_z}
use Rattle.std.proofs.lemmas.Int.{ints, to_z-of_z}
use Rattle.ics_zone.proofs.ZoneSteps.{all_sound}
use Rattle.ics_zone.proofs.JumpLemmas.{steady_before, steady_since}
use Rattle.ics_zone.proofs.observed.Observed.steady_to.Goals as goal

pub latest_of-requires : goal.latest_of-requires
latest_of-requires c = rw c.deref.ensures.value (all_sound _ _ c.self.invariant.asked)

pub first_offset-requires-clause-sound : goal.first_offset-requires-clause-sound
first_offset-requires-clause-sound c = rw c.deref-in-None.ensures.value (all_sound _ _ c.self.invariant.asked)

pub returns-in-Some-clause-steady : goal.returns-in-Some-clause-steady
returns-in-Some-clause-steady c =
    let known = rw c.self.view_is at c.self.invariant in
    let found = rw c.deref.ensures.value at (simp (to_z-of_z, c.ranges.to) at c.latest_of.ensures) in
    let next : to_z w64 (of_z w64 (to_z w64 (of_z w64 c.args.to) +ℤ pos 1)) ≡ c.args.to +ℤ pos 1 = omega (arith, ints) in
    rw (next, to_z-of_z w64 c.in-Some.latest.at (search rules), to_z-of_z w32 c.in-Some.latest.offset (search rules))
    (steady_since c.args.self.now known.some c.args.to (c.args.to +ℤ pos 1) c.in-Some.latest (λ i s p h l early. absurd (omega (arith, ints)))
    (rw c.in-Some.is at (found c.args.self.now.said.items known.asked)))

pub returns-in-None-clause-steady : goal.returns-in-None-clause-steady
returns-in-None-clause-steady c =
    let known = rw c.self.view_is at c.self.invariant in
    let found = rw c.deref.ensures.value at (simp (to_z-of_z, c.ranges.to) at c.latest_of.ensures) in
    let first = rw c.deref-in-None.ensures.value at c.first_offset.ensures in
    let next : to_z w64 (of_z w64 (to_z w64 (of_z w64 c.args.to) +ℤ pos 1)) ≡ c.args.to +ℤ pos 1 = omega (arith, ints) in
    rw (next, to_z-of_z w32 c.first_offset.result (search rules))
    (steady_before c.args.self.now known.some c.args.to (c.args.to +ℤ pos 1) _ c.first_offset.result
    (rw c.in-None.is at (found c.args.self.now.said.items known.asked)) (λ i s p h l early. absurd (omega (arith, ints)))
    (first c.args.self.now.said.items known.asked))
