use Rattle.std.proofs.Common.{OnOk, ◌<◌, ◌∙◌, ◌++◌, ◌≤ℤ◌, drop, length, not, refl, sym, subst, take, arith, to_z, of_z, w64}
use Rattle.std.specs.Ordering.{nat_cmp}
use Rattle.std.proofs.lemmas.Int.{ints}
use Rattle.ics_listing.specs.Inner.MergedLaws.{rises-filter}
use Rattle.ics_listing.specs.Listing.{IsIn}
use Rattle.ics_listing.specs.Rising.{Rises}
use Rattle.ics_listing.proofs.ListingLemmas.{all-as, all-in, filter-in, in-all}
use Rattle.ics_days.specs.HasPlaces.{HasPlaces}
use Rattle.ics_days.specs.NearPlaces.{AreReached, WaitBelow, is_far}
use Rattle.ics_days.proofs.NearPlaceLemmas.{all-cut, all-joined, all-reached, awaited-more, both-ok, put-below, put-old, reach-awaited}
use Rattle.ics_days.proofs.NearPlaceLemmas.{taken-below, taken-front, taken-more, taken-split}
use Rattle.ics_days.proofs.near_places.NearPlaces.reach.Goals as goal

pub returns-in_err-put_back-clause-has : goal.returns-in_err-put_back-clause-has
returns-in_err-put_back-clause-has c = λ w begin has.
    let self = c.args.self.now in
    let far = to_z w64 (of_z w64 c.saturating_add-far.result) in
    let some = rw c.deref.ensures.value at c.put_back.ensures.some.1 in
    let front = take c.put_back.ensures.some.0 self.near.items in
    awaited-more c.args.spans.now w self.near.items (drop self.taken self.waiting.items) self.returned.keys c.put_back.new.returned.keys
    (λ x m. subst (IsIn x) (sym some) (put-old c.args.spans.now far front self.returned.keys x m)) has

pub arrange-requires : goal.arrange-requires
arrange-requires c =
    let self = c.args.self.now in
    let from = to_z w64 (of_z w64 c.args.window.now.from) in
    let far = to_z w64 (of_z w64 c.saturating_add-far.result) in
    let taken = rw c.deref-2.ensures.value at c.take-taken.ensures.taken in
    let front = taken-front taken c.len-before.result c.take_back-back.ensures.taken (omega (arith, c.len-before.ensures, c.leave.new.near.ok)) in
    subst (Rises nat_cmp) (sym (front ∙ c.leave.ensures))
    (rises-filter nat_cmp (λ k. not (is_far c.args.spans.now k from far)) self.near.items self.rising)

pub returns : goal.returns
returns c =
    let self = c.args.self.now in
    let window = c.args.window.now in
    let spans = c.args.spans.now in
    let from = to_z w64 (of_z w64 c.args.window.now.from) in
    let far = to_z w64 (of_z w64 c.saturating_add-far.result) in
    let taken = rw c.deref-2.ensures.value at c.take-taken.ensures.taken in
    let later = rw c.deref-2.ensures.value at c.take-taken.ensures.later in
    let all = rw c.deref.ensures.value at c.in_ok-put_back.ensures.ok in
    let near = c.arrange.new.near.items in
    let waiting = drop self.taken self.waiting.items in
    let rest = drop c.take-taken.new.taken self.waiting.items in
    let back = c.take_back-back.new.returned.keys in
    let awaited = reach-awaited spans from far self.near.items near waiting rest self.returned.keys c.leave.ensures (taken-more taken)
    (taken-split taken) all c.take_back-back.ensures.taken (λ k. (c.arrange.ensures.same k).1) in
    record {
      count = refl;
      has = λ w begin has. awaited w (omega (arith, ints, begin, window.ordered, window.not_early, window.not_late)) has;
      reached = subst (λ r. OnOk r (HasPlaces self spans window → AreReached near spans window)) (sym c.and.ensures)
          (both-ok c.take-taken.result c.take_back-back.result
          (λ later again has.
          all-reached near (rest ++ back) spans window
          (all-as _ (λ x. window.to ≤ℤ x.first) (rest ++ back) (λ x l. omega (arith, ints, l, window.ordered, window.not_early, window.not_late))
          (all-joined (λ x. to_z w64 (of_z w64 window.to) ≤ℤ x.first) rest back later again))
          (awaited window (omega (arith, ints, window.ordered, window.not_early, window.not_late)) has))
          later c.take_back-back.ensures.later);
    }

pub invariant_of-self : goal.invariant_of-self
invariant_of-self c =
    let self = c.args.self.now in
    let count = length self.waiting.items in
    let far = to_z w64 (of_z w64 c.saturating_add-far.result) in
    let some = rw c.deref.ensures.value at c.put_back.ensures.some.1 in
    record {
      rising = self.rising;
      below = self.below;
      ordered = self.ordered;
      waiting_below = self.waiting_below;
      returned_below = subst (WaitBelow count) (sym some) (put-below c.args.spans.now far count _ self.returned.keys
          (all-cut (λ k. k < count) c.put_back.ensures.some.0 self.near.items self.below).0 self.returned_below);
    }

-- what is near, and what waits again, is one of the places from before
pub invariant_of-self-2 : goal.invariant_of-self-2
invariant_of-self-2 c =
    let self = c.args.self.now in
    let count = length self.waiting.items in
    let from = to_z w64 (of_z w64 c.args.window.now.from) in
    let far = to_z w64 (of_z w64 c.saturating_add-far.result) in
    let taken = rw c.deref-2.ensures.value at c.take-taken.ensures.taken in
    let left = in-all (λ k. k < count) c.leave.new.near.items (λ k m.
    all-in (λ k. k < count) self.near.items self.below k (filter-in (λ k. not (is_far c.args.spans.now k from far)) k self.near.items
    (subst (IsIn k) c.leave.ensures m)).0) in
    let one = taken-below taken count left (all-cut (λ x. x.place < count) self.taken self.waiting.items self.waiting_below).1 in
    let all = rw c.deref.ensures.value at c.in_ok-put_back.ensures.ok in
    let put = put-below c.args.spans.now far count self.near.items self.returned.keys self.below self.returned_below in
    let two = taken-below c.take_back-back.ensures.taken count one.0 (subst (WaitBelow count) (sym all) put) in
    record {
      rising = c.arrange.ensures.rises;
      below = in-all (λ k. k < count) c.arrange.new.near.items
          (λ k m. all-in (λ k. k < count) c.take_back-back.new.near.items two.0 k ((c.arrange.ensures.same k).0 m));
      ordered = self.ordered;
      waiting_below = self.waiting_below;
      returned_below = two.1;
    }
