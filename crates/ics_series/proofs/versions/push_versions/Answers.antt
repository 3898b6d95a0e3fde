use Rattle.std.proofs.lemmas.Grind.{common_steps}
use Rattle.std.proofs.Common.{◌≡◌, Some, ⊎_elim, refl, sym, ◌∙◌, ap, subst, arith, slice_get}
use Rattle.std.proofs.lemmas.Option.{slice_get_read, slice_get_within}
use Rattle.hex.specs.Hex.{IsBytes}
use Rattle.ics_event.specs.Event.{IsEvent}
use Rattle.ics_listing.proofs.Cases.{below-or-last, some-same}
use Rattle.ics_series.proofs.versions.push_versions.Goals as goal

pub loop-place-init : goal.loop-place-init
loop-place-init c = record { labels = grind (arith, common_steps); read = λ place event l there. absurd (omega (arith, l)) }

pub loop-place-preserved : goal.loop-place-preserved
loop-place-preserved c =
    let before = c.loop-place.invariant.labels in
    let here : slice_get c.args.events.now c.loop-place.place ≡ Some c.index-events-place.result =
    slice_get_read c.args.events.now _ c.loop-place.place c.index-events-place.result refl c.loop-place-test.true c.index-events-place.is in
    record {
      labels = grind (arith, common_steps, before);
      read = λ place event l there. ⊎_elim (λ less. c.loop-place.invariant.read place event less there)
          (λ same.
          let is = c.event.view_is ∙ some-same c.index-events-place.result event (sym here ∙ (ap (slice_get c.args.events.now) (sym same) ∙ there)) in
          let uid = c.as_slice-uid.ensures ∙ ap (λ e. e.uid) is in
          record { is_event = subst IsEvent is c.event.invariant; uid = subst IsBytes uid c.are_bytes.ensures })
          (below-or-last place c.loop-place.place (omega (arith, l)));
    }

pub returns : goal.returns
returns c =
    let whole = c.loop-place.invariant.labels in
    record {
      labels = grind (arith, common_steps, whole);
      read = λ place event there.
          c.loop-place.invariant.read place event (omega (arith, slice_get_within c.args.events.now place event there, c.loop-place-test.false)) there;
    }
