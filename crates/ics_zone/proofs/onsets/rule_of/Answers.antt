use Rattle.std.proofs.Common.{rules, ◌≡◌, Some, ap, sym, SFits, w32}
use Rattle.std.proofs.lemmas.Int.{to_z-of_z}
use Rattle.ics_zone.specs.Observances.{ObservanceSaid}
use Rattle.ics_zone.proofs.RepeatLemmas.{round_there}
use Rattle.ics_zone.proofs.onsets.rule_of.Goals as goal

pub returns-clause-round : goal.returns-clause-round
returns-clause-round c =
    let from : SFits w32 c.observance.inside.offset_from = search rules in
    let is : c.args.observance.now.rule ≡ Some c.parts-2.result.now = search rules in
    round_there c.args.observance.now c.parts-2.result.now c.observance.inside.start c.observance.inside.offset_from c.round_of-round.result is
    (ap (λ (p : ObservanceSaid). p.start) (sym c.observance.view_is)) (ap (λ (p : ObservanceSaid). p.offset_from) (sym c.observance.view_is))
    (simp (to_z-of_z, from) at c.round_of-round.ensures)
