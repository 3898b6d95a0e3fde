use Rattle.std.proofs.lemmas.Grind.{common_steps}
use Rattle.std.proofs.Common.{◌∙◌, rules, ap, sym, subst, arith}
use Rattle.std.proofs.lemmas.Int.{ints}
use Rattle.ics_event.specs.Event.{IsEvent}
use Rattle.ics_event.specs.declared.event.Event.{Event}
use Rattle.ics_starts.specs.Clocks.{instant}
use Rattle.ics_starts.specs.FileZones.{clocks_in, IsTimeOf}
use Rattle.ics_starts.proofs.ZoneLemmas.{own-event}
use Rattle.ics_listing.proofs.Cases.{moment-back}
use Rattle.ics_starts.proofs.single.Single.begun.Goals as goal

pub instant-start-requires : goal.instant-start-requires
instant-start-requires c =
    let sound : IsEvent c.args.event.now = search rules in
    subst (λ (v : Event). IsTimeOf c.args.zones.zones.now v.start) (sym c.event.view_is) (own-event c.args.zones c.args.event.now sound c.requires).start

pub invariant_of-result : goal.invariant_of-result
invariant_of-result c =
    let sound : IsEvent c.args.event.now = search rules in
    let fits = moment-back c.instant-start.result c.instant-start.type_inv in
    record {
      own = own-event c.args.zones c.args.event.now sound c.requires;
      first = fits ∙ (c.instant-start.ensures ∙ ap (λ (v : Event). instant (clocks_in c.args.zones) v.start) c.event.view_is);
      early = omega (arith, ints, c.if-start-window.false, c.args.window.now.not_late);
    }

pub returns-then-start-window : goal.returns-then-start-window
returns-then-start-window c = grind (arith, common_steps)
