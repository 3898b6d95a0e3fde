use Rattle.std.proofs.Common.{rules, arith, is_ok, get_or, pos, ℤ, SFits, length, ◌<◌, w64}
use Rattle.std.proofs.lemmas.Int.{to_z-of_z}
use Rattle.ics_zone.specs.Moments.{IsMomentBy}
use Rattle.ics_zone.proofs.WalkLemmas.{answer_pushed}
use Rattle.ics_zone.proofs.answers.add_settled.Goals as goal
use Rattle.ics_zone.proofs.answers.add_settled.Goals.{in-Some, in_default}

-- one more, or none where memory is refused
pub loop-k-preserved : goal.loop-k-preserved
loop-k-preserved c = λ offset short swept before. elim c.match-settled.branch [
  | in-Some w ↦ (
      let inside : c.loop-k.k < length c.args.locals.now = omega (arith, c.loop-k-test.true) in
      let local : ℤ = get_or c.args.locals.now c.loop-k.k (pos 0) in
      let seconds : SFits w64 local = search rules in
      let moment : SFits w64 w.in-Some.moment = search rules in
      let right : IsMomentBy offset local w.in-Some.moment =
      (simp (to_z-of_z, seconds) at w.in-Some.ensures) offset short (swept.each c.loop-k.k (pos 0) _ inside) in
      let items = simp (to_z-of_z, moment, seconds) at w.push.ensures.items in
      rw w.answers-is (answer_pushed c.loop-k.answers.items (record { seconds = local; moment = w.in-Some.moment }) (is_ok w.push.result) items
      (c.loop-k.invariant offset short swept before) right))
  | in_default w ↦ rw w.answers-is (c.loop-k.invariant offset short swept before)
]
