use Rattle.std.proofs.Common.{◌≡◌, rules, w64, to_z, of_z, ◌∙◌, ap, subst, arith, SFits}
use Rattle.std.specs.List.Sorted.{IsSearchInRange}
use Rattle.std.proofs.lemmas.Int.{ints}
use Rattle.std.proofs.lemmas.List.Sorted.{answers_always}
use Rattle.ics_listing.specs.WaitingOrder.{waits_at}
use Rattle.ics_listing.proofs.WaitingLemmas.{found-in_line}
use Rattle.ics_listing.proofs.queue.Queue.is_in_line.Goals as goal

pub returns : goal.returns
returns c =
    let q = c.args.self.now in
    let fits : SFits w64 c.args.moment = c.ranges.moment in
    let same : to_z w64 (of_z w64 c.args.moment) ≡ c.args.moment = omega (arith, ints) in
    let found = c.binary_search_by_key.ensures in
    c.is_ok.ensures.value
    ∙ (found-in_line _ q.line.items c.binary_search_by_key.result c.requires (subst (IsSearchInRange c.binary_search_by_key.result) q.line.ok.0 found.bound)
    (found.position (λ w. w.moment) (answers_always _ _ _ (λ f a r g called. search rules)))
    ∙ ap (λ t. waits_at t q.line.items) same)
