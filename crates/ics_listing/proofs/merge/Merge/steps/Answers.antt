use Rattle.std.proofs.lemmas.Grind.{common_steps}
use Rattle.std.proofs.Common.{◌<◌, get_or, length, ◌∙◌, ap, subst, arith}
use Rattle.std.proofs.lemmas.List.Sums.{sum_by_more}
use Rattle.ics_listing.proofs.merge.Merge.steps.Goals as goal

pub loop-lead-preserved : goal.loop-lead-preserved
loop-lead-preserved g c =
    let leads = c.args.self.now.leads.items in
    let k = c.loop-lead.lead-index in
    let lead = c.lead-item.result in
    let items = c.deref-lead-items.ensures.value in
    let within = subst (λ xs. k < length xs) items c.loop-lead-test.true in
    let one = ap (λ x. g.F.Holding.looked x.feed) (c.lead-item.is ∙ ap (λ xs. get_or xs k lead) items) in
    let more = sum_by_more (λ x. g.F.Holding.looked x.feed) leads k lead within in
    omega (arith, more, one, c.saturating_add-steps.ensures, c.steps.ensures, c.loop-lead.invariant)

pub returns : goal.returns
returns g c = grind (arith, common_steps)
