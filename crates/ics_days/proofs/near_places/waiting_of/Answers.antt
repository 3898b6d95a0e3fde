use Rattle.std.proofs.Common.{◌≡◌, ◌<◌, ap, arith, get_or, inl, length, pos, rules, subst, sym, ⊎_elim, to_z, of_z, w64, ◌∙◌}
use Rattle.std.proofs.lemmas.Option.{get_or_from_slice_get, slice_get_within}
use Rattle.ics_listing.specs.Listing.{IsIn}
use Rattle.ics_listing.proofs.LeadLemmas.{all-pushed}
use Rattle.ics_listing.proofs.ListingLemmas.{in-append_left, in-append_right}
use Rattle.ics_days.specs.NearPlaces.{WaitBelow}
use Rattle.ics_days.specs.declared.span.Span.{Span}
use Rattle.ics_zone.proofs.Cases.{below_or_at}
use Rattle.ics_days.proofs.near_places.waiting_of.Goals as goal

pub loop-place-preserved : goal.loop-place-preserved
loop-place-preserved c =
    let items = c.in_ok-push.ensures.items in
    let before = c.loop-place.waiting.items in
    let spans = c.args.spans.now in
    let place = c.loop-place.place in
    let count = c.loop-place.invariant.count in
    let none : Span = record { first = pos 0; last = pos 0 } in
    let fits : to_z w64 (of_z w64 (get_or c.args.spans.now c.loop-place.place none).first) ≡ (get_or c.args.spans.now c.loop-place.place none).first =
    search rules in
    record {
      count = omega (arith, count, c.in_ok-push.ensures.len);
      below = subst (WaitBelow (length spans)) (sym items)
          (all-pushed (λ x. x.place < length spans) before _ c.loop-place.invariant.below c.loop-place-test.true);
      each = λ k s l at. subst (IsIn (record { first = s.first; place = k })) (sym items)
          (⊎_elim
          (λ less. in-append_left _ before _ (c.loop-place.invariant.each k s less at))
          (λ e.
          let span = sym (ap (λ n. get_or spans n none) e) ∙ get_or_from_slice_get spans k s none at in
          let first = sym (fits ∙ ap (λ (x : Span). x.first) span) in
          in-append_right _ before _ (inl (λ i. record { first = first i; place = e i })))
          (below_or_at k place (omega (arith, l))));
    }

pub returns-clause-each : goal.returns-clause-each
returns-clause-each c = λ k s at.
    c.loop-place.invariant.each k s (omega (arith, c.loop-place-test.false, slice_get_within c.args.spans.now k s at)) at
