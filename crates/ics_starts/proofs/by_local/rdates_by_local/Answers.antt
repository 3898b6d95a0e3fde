use Rattle.std.proofs.Common.{◌≡◌, ◌≤◌, ◌∙◌, ℤ, Some, List, length, option_map, refl, sym, ap, subst, rules, arith, slice_get}
use Rattle.std.proofs.lemmas.Int.{ints}
use Rattle.std.proofs.lemmas.List.{length-map}
use Rattle.std.proofs.lemmas.Option.{slice_get-map, slice_get_read}
use Rattle.ics_event.specs.declared.event.Event.{Event}
use Rattle.ics_event.specs.Event.{stamp_seconds, IsEvent, IsRdate, Rdate, Time}
use Rattle.ics_fields.specs.declared.local.Local.{Local}
use Rattle.ics_fields.specs.Locals.{local_seconds}
use Rattle.ics_listing.specs.StartTimes.{time_of}
use Rattle.ics_listing.proofs.StartOrderLemmas.{all-at, rdate-time}
use Rattle.ics_starts.specs.Inner.ByLocal.{local_in, rdate_locals}
use Rattle.ics_starts.specs.Starts.{given_by}
use Rattle.ics_starts.proofs.ByLocalLemmas.{placed-more, placed-sorted, sorted-by}
use Rattle.ics_starts.proofs.InstantLemmas.{written}
use Rattle.ics_starts.proofs.StartSourceLemmas.{given-value}
use Rattle.ics_starts.proofs.StretchLemmas.{seconds-of}
use Rattle.ics_starts.proofs.by_local.rdates_by_local.Goals as goal

pub loop-place-preserved : goal.loop-place-preserved
loop-place-preserved c =
    let event = c.args.event.now in
    let k = c.loop-place.place in
    let x = c.rdate-item.result in
    let start : Rdate → ℤ = λ rdate. local_in (time_of (given_by event.start rdate)) in
    let sound : IsEvent c.args.event.now = search rules in
    let items : c.rdates-rdate-items.result.now ≡ event.rdates = c.rdates-rdate-items.ensures.value in
    let there : slice_get event.rdates k ≡ Some x =
    subst (λ (xs : List Rdate). slice_get xs k ≡ Some x) items
    (slice_get_read c.rdates-rdate-items.result.now (length c.rdates-rdate-items.result.now) k x refl c.loop-place-test.true c.rdate-item.is) in
    let given : c.given_by-given.result ≡ given_by event.start x = c.given_by-given.ensures ∙ ap (λ (v : Event). given_by v.start x) c.event.view_is in
    let time : c.time_of.result ≡ time_of (given_by event.start x) = c.time_of.ensures ∙ ap time_of given in
    let local : c.seconds-local.result ≡ stamp_seconds (time_of (given_by c.args.event.now.start c.rdate-item.result)).stamp =
    c.seconds-local.ensures ∙ (ap (λ (l : Local). local_seconds l) c.local_of.ensures ∙ (seconds-of c.time_of.result.stamp
    ∙ ap (λ (t : Time). stamp_seconds t.stamp) time)) in
    let value = given-value event.start event.start.stamp x sound.start (all-at IsRdate event.rdates k x sound.rdates there) in
    let years = written (time_of (given_by event.start x)).stamp (rdate-time (given_by event.start x) value).years in
    placed-more {locals = rdate_locals event} {n = k} {local = start x} c.in_ok-push.ensures.items refl
    (omega (arith, ints, local, years.0, years.1)) (slice_get-map start event.rdates k ∙ ap (option_map start) there)
    (omega (arith, ints, years.0), omega (arith, ints, years.1)) c.loop-place.invariant

pub returns : goal.returns
returns c =
    let event = c.args.event.now in
    let k = c.loop-place.place in
    let start : Rdate → ℤ = λ rdate. local_in (time_of (given_by event.start rdate)) in
    let sorted = c.sort_unstable_by_key.new.self.items in
    let items : c.rdates-rdate-items.result.now ≡ event.rdates = c.rdates-rdate-items.ensures.value in
    let over : length event.rdates ≤ k = subst (λ (xs : List Rdate). length xs ≤ k) items c.loop-place-test.false in
    placed-sorted c.loop-place.places.items sorted (subst (λ n. n ≤ k) (sym (length-map event.rdates start)) over)
    c.sort_unstable_by_key.ensures.permutation (sorted-by sorted c.sort_unstable_by_key.ensures.sorted (λ a r f' k. search rules)) c.loop-place.invariant
