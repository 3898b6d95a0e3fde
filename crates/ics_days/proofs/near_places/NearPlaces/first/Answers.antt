use Rattle.std.proofs.Common.{rules, ◌≡◌, ◌∙◌, ◌++◌, arith, to_z, of_z, w64, drop, ◌≤ℤ◌}
use Rattle.std.specs.List.{AllByRecursion}
use Rattle.std.proofs.lemmas.Int.{ints, to_z-of_z}
use Rattle.ics_listing.proofs.ListingLemmas.{all-as}
use Rattle.ics_days.specs.NearPlaces.{first_of}
use Rattle.ics_days.proofs.NearPlaceLemmas.{all-joined, first-most, none-begun}
use Rattle.ics_days.proofs.near_places.NearPlaces.first.Goals as goal

pub returns-clause-end : goal.returns-clause-end
returns-clause-end c =
    let most = first-most (to_z w64 (of_z w64 c.args.from)) c.args.spans.now (to_z w64 (of_z w64 c.first_returned-first.result)) c.deref-2.result.now in
    let near = c.first_near in
    let back = c.first_returned-first in
    let front = c.first_waiting-first in
    omega (arith, ints, near.type_inv, near.ensures, most, back.type_inv, back.ensures.end, front.type_inv, front.ensures.end, c.ranges.end)

pub returns-clause-none : goal.returns-clause-none
returns-clause-none c = λ w begin end has k s at.
    let start : to_z w64 (of_z w64 c.first_returned-first.result) ≡ c.first_returned-first.result =
    to_z-of_z w64 c.first_returned-first.result (record { sfits = c.first_returned-first.type_inv }) in
    let from : to_z w64 (of_z w64 c.args.from) ≡ c.args.from = search rules in
    let is : c.first_near.result ≡ first_of c.args.from c.first_returned-first.result c.args.spans.now c.args.self.now.near.items =
    c.first_near.ensures ∙ (λ i. first_of (from i) (start i) c.args.spans.now (c.deref-2.ensures.value i)) in
    let waiting = drop c.args.self.now.taken c.args.self.now.waiting.items in
    let back = c.args.self.now.returned.keys in
    let later : AllByRecursion (λ x. c.first_waiting-first.result ≤ℤ x.first) (drop c.args.self.now.taken c.args.self.now.waiting.items) =
    rw c.deref.ensures.value at c.first_waiting-first.ensures.each in
    let each = all-joined (λ x. c.first_returned-first.result ≤ℤ x.first) waiting back
    (all-as (λ x. c.first_waiting-first.result ≤ℤ x.first) (λ x. c.first_returned-first.result ≤ℤ x.first) waiting
    (λ x l. omega (arith, ints, l, c.first_waiting-first.type_inv, c.first_returned-first.ensures.end)) later) c.first_returned-first.ensures.each in
    none-begun c.args.from c.args.spans.now c.args.self.now.near.items (waiting ++ back) c.first_returned-first.result w is each begin
    (omega (arith, ints, c.first_near.type_inv, end)) has k s at
