use Rattle.std.proofs.Common.{rules, ◌<◌, length, refl, sym, subst, arith}
use Rattle.std.specs.Ordering.{int_cmp, nat_cmp, on}
use Rattle.std.proofs.lemmas.Cmp.{int_cmp_total, on_total}
use Rattle.std.proofs.lemmas.Int.{ints}
use Rattle.std.proofs.lemmas.List.Sorted.{IsPermutation-sym}
use Rattle.ics_listing.specs.Rising.{Rises}
use Rattle.ics_listing.proofs.ListingLemmas.{all-in, climbs-by, in-all, in-append_left, in-permutation}
use Rattle.ics_days.specs.NearPlaces.{AreBelow, WaitBelow}
use Rattle.ics_days.specs.declared.near_places.WaitingPlace.{WaitingPlace}
use Rattle.ics_days.proofs.NearPlaceLemmas.{climbs-in-turn}
use Rattle.ics_days.proofs.near_places.NearPlaces.new.Goals as goal

pub invariant_of-result : goal.invariant_of-result
invariant_of-result c =
    let before = c.in_ok-waiting.waiting.items in
    let sorted = c.sort_unstable_by.new.self.items in
    let count = c.in_ok-waiting.ensures.count in
    let first = λ (x : WaitingPlace). x.first in
    record {
      rising = subst (Rises nat_cmp) (sym c.new.ensures.items) tt;
      below = subst (AreBelow (length sorted)) (sym c.new.ensures.items) tt;
      ordered = climbs-in-turn sorted
          (climbs-by (on first int_cmp) (on_total first int_cmp_total) sorted c.sort_unstable_by.ensures.sorted (λ f a r f' k. search rules));
      waiting_below = in-all (λ x. x.place < length sorted) sorted (λ x m.
          let below = all-in (λ y. y.place < length c.args.spans.now) before c.in_ok-waiting.ensures.below x
          (in-permutation x sorted before (IsPermutation-sym before sorted c.sort_unstable_by.ensures.permutation) m) in
          omega (arith, below, count, c.sort_unstable_by.ensures.len));
      returned_below = subst (WaitBelow (length sorted)) (sym c.new-2.ensures.empty) tt;
    }

pub returns : goal.returns
returns c =
    let before = c.in_ok-waiting.waiting.items in
    let sorted = c.sort_unstable_by.new.self.items in
    record {
      count = omega (arith, c.sort_unstable_by.ensures.len, c.in_ok-waiting.ensures.count);
      has = λ w k s at away none.
          let one : WaitingPlace = record { first = s.first; place = k } in
          let stands = in-permutation one before sorted c.sort_unstable_by.ensures.permutation (c.in_ok-waiting.ensures.each k s at) in
          absurd (none (one, in-append_left one sorted c.new-2.result.keys stands, refl, omega (arith, ints)));
    }
