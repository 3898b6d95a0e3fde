use Rattle.std.proofs.Common.{rules, arith, inl, inr, SFits, length, ◌<◌, w64}
use Rattle.std.proofs.lemmas.Int.{to_z-of_z}
use Rattle.ics_zone.proofs.walk.moment_in.Goals as goal

pub loop-k-init : goal.loop-k-init
loop-k-init c = λ offset short all. rw (to_z-of_z w64 c.args.seconds c.ranges.seconds)
    (simp (to_z-of_z, c.ranges.seconds) at c.walk_to-walk.ensures.walk offset short)

pub returns-in-Shows : goal.returns-in-Shows
returns-in-Shows c = λ offset short all.
    let inside : c.loop-k.k < length c.args.spans.now = omega (arith, c.loop-k-test.true) in
    let fits : SFits w64 c.in-Shows.moment = search rules in
    rw (to_z-of_z w64 c.in-Shows.moment fits)
    (inl (simp (to_z-of_z, c.ranges.seconds) at (c.in-Shows.ensures offset short (all c.loop-k.k _ inside) (c.loop-k.invariant offset short all))))

pub returns-in-Some : goal.returns-in-Some
returns-in-Some c = λ offset short all.
    let inside : c.loop-k.k < length c.args.spans.now = omega (arith, c.loop-k-test.true) in
    let fits : SFits w64 c.in-Some.moment = search rules in
    rw (to_z-of_z w64 c.in-Some.moment fits)
    (inr (simp (to_z-of_z, c.ranges.seconds) at (c.in-Some.ensures offset short (c.in-On.ensures offset short (all c.loop-k.k _ inside)
    (c.loop-k.invariant offset short all)))))

pub loop-k-preserved : goal.loop-k-preserved
loop-k-preserved c = λ offset short all.
    let inside : c.loop-k.k < length c.args.spans.now = omega (arith, c.loop-k-test.true) in
    c.in-On.ensures offset short (all c.loop-k.k _ inside) (c.loop-k.invariant offset short all)
