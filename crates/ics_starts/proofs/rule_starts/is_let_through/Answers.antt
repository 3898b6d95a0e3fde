use Rattle.std.proofs.Common.{◌≡◌, ◌||◌, ◌&&◌, w64, to_z, of_z, sym, ◌∙◌, ap, arith, ◌==◌, int_lt, SFits}
use Rattle.std.proofs.lemmas.Int.{ints}
use Rattle.ics_rule.specs.Kept.{until_moment}
use Rattle.ics_fields.specs.Locals.{number}
use Rattle.ics_zone.specs.Observances.{is_until}
use Rattle.ics_listing.proofs.StartOrderLemmas.{local-test}
use Rattle.ics_starts.proofs.rule_starts.is_let_through.Goals as goal

pub returns : goal.returns
returns c =
    let rule = c.args.rule.now in
    let n = number c.args.local in
    let fits : SFits w64 c.args.moment = c.ranges.moment in
    let t : to_z w64 (of_z w64 c.args.moment) ≡ c.args.moment = omega (arith, ints) in
    let to : to_z w64 (of_z w64 c.args.window.to) ≡ c.args.window.to =
    omega (arith, ints, c.args.window.not_early, c.args.window.ordered, c.args.window.not_late) in
    let first : c.eq-first.result ≡ (n == number rule.start) =
    c.eq-first.ensures ∙ (local-test c.args.local c.args.first c.requires.local c.requires.first ∙ ap (λ k. n == k) (sym c.requires.start)) in
    let until : c.is_until-until.result ≡ is_until (until_moment rule) c.args.moment =
    c.is_until-until.ensures ∙ (ap (is_until c.until_moment.result) t ∙ ap (λ o. is_until o c.args.moment) c.until_moment.ensures) in
    λ i. (first i || until i) && int_lt (t i) (to i)
