use Rattle.std.proofs.Common.{◌≡◌, rules, w64, to_z, of_z, ◌∙◌, ap, arith, SFits}
use Rattle.std.proofs.lemmas.Int.{ints}
use Rattle.ics_listing.specs.WaitingOrder.{begins_after}
use Rattle.ics_listing.proofs.WaitingLemmas.{begins-some}
use Rattle.ics_listing.proofs.queue.begins_between.Goals as goal

pub returns-in-Some : goal.returns-in-Some
returns-in-Some c =
    let ws = c.args.line.now.items in
    let fits : SFits w64 c.in-Some.moment.now = search rules in
    let same : to_z w64 (of_z w64 c.in-Some.moment.now) ≡ c.in-Some.moment.now = omega (arith, ints) in
    c.begins_after.ensures ∙ (ap (λ t. begins_after t ws) same ∙ begins-some ws c.args.between.now.entries _ c.in-Some.ensures.first)
