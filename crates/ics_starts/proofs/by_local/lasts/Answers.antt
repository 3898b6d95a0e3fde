use Rattle.std.proofs.Common.{◌≡◌, ◌∙◌, ◌++◌, [], ◌∷◌, ◌+◌, ℤ, Some, List, length, refl, sym, ap, subst, rules, slice_get, w64, to_z, of_z}
use Rattle.std.proofs.lemmas.List.{length-append}
use Rattle.std.proofs.lemmas.Option.{slice_get_read}
use Rattle.ics_event.specs.declared.event.Event.{Event}
use Rattle.ics_event.specs.Event.{IsEvent, IsRdate, Rdate}
use Rattle.ics_listing.proofs.Cases.{moment-back}
use Rattle.ics_listing.proofs.StartOrderLemmas.{all-at}
use Rattle.ics_starts.specs.Inner.ByLocal.{IsEndedBy}
use Rattle.ics_starts.specs.Starts.{given_by}
use Rattle.ics_starts.proofs.NearLemmas.{ended-more}
use Rattle.ics_starts.proofs.StartSourceLemmas.{given-value}
use Rattle.ics_starts.proofs.by_local.lasts.Goals as goal

pub last_of-requires : goal.last_of-requires
last_of-requires c =
    let event = c.args.event.now in
    let n = c.loop-rdate.rdate-index in
    let x = c.rdate-item.result in
    let sound : IsEvent c.args.event.now = search rules in
    let items : c.rdates-rdate-items.result.now ≡ event.rdates = c.rdates-rdate-items.ensures.value in
    let there : slice_get event.rdates n ≡ Some x =
    subst (λ (xs : List Rdate). slice_get xs n ≡ Some x) items
    (slice_get_read c.rdates-rdate-items.result.now (length c.rdates-rdate-items.result.now) n x refl c.loop-rdate-test.true c.rdate-item.is) in
    let given : c.given_by.result ≡ given_by event.start x = c.given_by.ensures ∙ ap (λ (v : Event). given_by v.start x) c.event.view_is in
    subst IsRdate (sym given) (given-value event.start event.start.stamp x sound.start (all-at IsRdate event.rdates n x sound.rdates there))

pub loop-rdate-preserved : goal.loop-rdate-preserved
loop-rdate-preserved c =
    let event = c.args.event.now in
    let n = c.loop-rdate.rdate-index in
    let x = c.rdate-item.result in
    let items : c.rdates-rdate-items.result.now ≡ event.rdates = c.rdates-rdate-items.ensures.value in
    let there : slice_get event.rdates n ≡ Some x =
    subst (λ (xs : List Rdate). slice_get xs n ≡ Some x) items
    (slice_get_read c.rdates-rdate-items.result.now (length c.rdates-rdate-items.result.now) n x refl c.loop-rdate-test.true c.rdate-item.is) in
    let given : c.given_by.result ≡ given_by event.start x = c.given_by.ensures ∙ ap (λ (v : Event). given_by v.start x) c.event.view_is in
    let back : to_z w64 (of_z w64 c.last_of.result) ≡ c.last_of.result = moment-back c.last_of.result c.last_of.type_inv in
    let last = subst (λ t. IsEndedBy t (given_by event.start x)) (sym back) (subst (IsEndedBy c.last_of.result) given c.last_of.ensures) in
    let pushed : c.push.new.self.items ≡ c.loop-rdate.lasts.items ++ (to_z w64 (of_z w64 c.last_of.result) ∷ []) = c.in_ok-push.ensures.items in
    record {
      size = ap (λ (xs : List ℤ). length xs) pushed ∙ (length-append c.loop-rdate.lasts.items (to_z w64 (of_z w64 c.last_of.result) ∷ [])
          ∙ ap (λ m. m + 1) c.loop-rdate.invariant.size);
      each = ended-more event (to_z w64 (of_z w64 c.last_of.result)) c.loop-rdate.lasts.items x there last c.loop-rdate.invariant.size pushed
          c.loop-rdate.invariant.each;
    }
