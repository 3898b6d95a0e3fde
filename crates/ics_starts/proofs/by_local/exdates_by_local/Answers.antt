use Rattle.std.proofs.Common.{All, ◌≡◌, ◌≤◌, ◌∙◌, Some, List, length, option_map, refl, sym, ap, subst, rules, arith, slice_get}
use Rattle.std.proofs.lemmas.Int.{ints}
use Rattle.std.proofs.lemmas.List.{length-map}
use Rattle.std.proofs.lemmas.Option.{slice_get-map, slice_get_read}
use Rattle.ics_event.specs.Event.{stamp_seconds, IsTime, Time}
use Rattle.ics_fields.specs.declared.local.Local.{Local}
use Rattle.ics_fields.specs.Locals.{local_seconds}
use Rattle.ics_listing.proofs.StartOrderLemmas.{all-at}
use Rattle.ics_starts.specs.Inner.ByLocal.{exdate_locals, local_in}
use Rattle.ics_starts.proofs.ByLocalLemmas.{placed-more, placed-sorted, sorted-by}
use Rattle.ics_starts.proofs.InstantLemmas.{written}
use Rattle.ics_starts.proofs.StretchLemmas.{seconds-of}
use Rattle.ics_starts.proofs.by_local.exdates_by_local.Goals as goal

pub loop-place-preserved : goal.loop-place-preserved
loop-place-preserved c =
    let event = c.args.event.now in
    let k = c.loop-place.place in
    let x = c.exdate-item.result in
    let items : c.exdates-exdate-items.result.now ≡ event.exdates = c.exdates-exdate-items.ensures.value in
    let there : slice_get event.exdates k ≡ Some x =
    subst (λ (xs : List Time). slice_get xs k ≡ Some x) items
    (slice_get_read c.exdates-exdate-items.result.now (length c.exdates-exdate-items.result.now) k x refl c.loop-place-test.true c.exdate-item.is) in
    let sound = subst (λ (xs : List Time). All IsTime xs) items c.exdates-exdate-items.ensures.sound in
    let local : c.seconds-local.result ≡ stamp_seconds c.exdate-item.result.stamp =
    c.seconds-local.ensures ∙ (ap (λ (l : Local). local_seconds l) c.local_of.ensures ∙ seconds-of x.stamp) in
    let years = written x.stamp (all-at IsTime event.exdates k x sound there).years in
    placed-more {locals = exdate_locals event} {n = k} {local = stamp_seconds x.stamp} c.in_ok-push.ensures.items refl
    (omega (arith, ints, local, years.0, years.1)) (slice_get-map local_in event.exdates k ∙ ap (option_map local_in) there)
    (omega (arith, ints, years.0), omega (arith, ints, years.1)) c.loop-place.invariant

pub returns : goal.returns
returns c =
    let event = c.args.event.now in
    let k = c.loop-place.place in
    let sorted = c.sort_unstable_by_key.new.self.items in
    let items : c.exdates-exdate-items.result.now ≡ event.exdates = c.exdates-exdate-items.ensures.value in
    let over : length event.exdates ≤ k = subst (λ (xs : List Time). length xs ≤ k) items c.loop-place-test.false in
    placed-sorted c.loop-place.places.items sorted (subst (λ n. n ≤ k) (sym (length-map event.exdates local_in)) over)
    c.sort_unstable_by_key.ensures.permutation (sorted-by sorted c.sort_unstable_by_key.ensures.sorted (λ a r f' k. search rules)) c.loop-place.invariant
