use Rattle.std.proofs.Common.{rules, is_ok, get_or, pos, ℤ, SFits, w64}
use Rattle.std.proofs.lemmas.Int.{to_z-of_z}
use Rattle.ics_zone.specs.Moments.{IsMomentOf}
use Rattle.ics_zone.proofs.WalkLemmas.{answer_pushed}
use Rattle.ics_zone.proofs.observed.Observed.each_answer.Goals as goal
use Rattle.ics_zone.proofs.observed.Observed.each_answer.Goals.{then-is_moment, else-is_moment}

-- one more, or none where memory is refused
pub loop-k-preserved : goal.loop-k-preserved
loop-k-preserved c = elim c.if-is_moment.branch [
  | then-is_moment w ↦ (
      let local : ℤ = get_or c.args.locals.now c.loop-k.k (pos 0) in
      let seconds : SFits w64 local = search rules in
      let moment : SFits w64 w.instant_of-moment.result = search rules in
      let right : IsMomentOf c.args.self.now.said.items local w.instant_of-moment.result =
      simp (to_z-of_z, seconds) at w.instant_of-moment.ensures in
      let items = simp (to_z-of_z, moment, seconds) at w.push.ensures.items in
      rw w.answers-is (answer_pushed c.loop-k.answers.items (record { seconds = local; moment = w.instant_of-moment.result }) (is_ok w.push.result) items
      c.loop-k.invariant right))
  | else-is_moment w ↦ rw w.answers-is c.loop-k.invariant
]
