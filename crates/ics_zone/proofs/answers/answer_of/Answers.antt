use Rattle.std.proofs.Common.{◌≡◌, rules, sym, subst, ap, ◌∙◌, get_or, pos, to_z, SFits, w64}
use Rattle.std.proofs.lemmas.Int.{to_z-of_z}
use Rattle.ics_zone.specs.declared.answers.Answer.{Answer}
use Rattle.ics_zone.specs.Moments.{IsMomentOf}
use Rattle.ics_zone.proofs.answers.answer_of.Goals as goal

-- the one at the place, whose local is the one that is asked for
pub returns-then-answers-earlier : goal.returns-then-answers-earlier
returns-then-answers-earlier c = λ zone all.
    let answer : Answer = get_or c.args.answers.now c.partition_point-earlier.result (record { seconds = pos 0; moment = pos 0 }) in
    let seconds : SFits w64 answer.seconds = search rules in
    let moment : SFits w64 answer.moment = search rules in
    let right : IsMomentOf zone answer.seconds answer.moment = all c.partition_point-earlier.result _ c.if-earlier-answers.true in
    let same : answer.seconds ≡ c.args.seconds =
    sym (to_z-of_z w64 answer.seconds seconds) ∙ ap (to_z w64) c.if-answers-earlier.true ∙ to_z-of_z w64 c.args.seconds c.ranges.seconds in
    rw (to_z-of_z w64 answer.moment moment) (subst (λ s. IsMomentOf zone s answer.moment) same right)
