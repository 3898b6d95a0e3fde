use Rattle.std.proofs.Common.{◌+◌, ◌<◌, ◌∷◌, [], inl, ⊎_elim, sym, subst, arith, Less}
use Rattle.std.specs.Cmp.{nat_cmp_is}
use Rattle.std.specs.Ordering.{nat_cmp}
use Rattle.ics_listing.specs.Listing.{IsIn}
use Rattle.ics_listing.specs.Rising.{Rises}
use Rattle.ics_listing.proofs.LeadLemmas.{all-pushed}
use Rattle.ics_listing.proofs.ListingLemmas.{all-as, all-in, in-append_left, in-append_right}
use Rattle.ics_days.specs.NearPlaces.{AreBelow}
use Rattle.ics_starts.proofs.JoinedLemmas.{rises-append}
use Rattle.ics_zone.proofs.Cases.{below_or_at}
use Rattle.ics_days.proofs.near_places.all_places.Goals as goal

pub loop-place-preserved : goal.loop-place-preserved
loop-place-preserved c =
    let places = c.loop-place.places.items in
    let place = c.loop-place.place in
    let items = c.in_ok-push.ensures.items in
    record {
      rises = subst (Rises nat_cmp) (sym items)
          (rises-append nat_cmp places (place ∷ []) c.loop-place.invariant.rises (tt, tt)
          (λ x y m n. ⊎_elim
          (λ e. sym (nat_cmp_is x y Less (let below = all-in (λ k. k < place) places c.loop-place.invariant.below x m in omega (arith, below, e))))
          (λ b. absurd b) n));
      below = subst (AreBelow (place + 1)) (sym items)
          (all-pushed (λ k. k < place + 1) places place
          (all-as (λ k. k < place) (λ k. k < place + 1) places (λ k l. omega (arith, l)) c.loop-place.invariant.below) (omega arith));
      all = λ k l. subst (IsIn k) (sym items)
          (⊎_elim
          (λ before. in-append_left k places (place ∷ []) (c.loop-place.invariant.all k before))
          (λ e. in-append_right k places (place ∷ []) (inl e))
          (below_or_at k place (omega (arith, l))));
    }
