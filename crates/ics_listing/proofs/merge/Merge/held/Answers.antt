use Rattle.std.specs.List.{flat_map}
use Rattle.ics_listing.specs.declared.occurrence.Occurrence.{Occurrence}
use Rattle.ics_listing.specs.Entry.{Entry}
use Rattle.std.proofs.Common.{length, ◌≡◌, ◌+◌, ◌<◌, ◌∙◌, List, [], Option, Some, None, ap, arith, get_or, subst}
use Rattle.std.proofs.lemmas.Grind.{common_steps}
use Rattle.std.proofs.lemmas.List.Sums.{sum_by_more}
use Rattle.std.proofs.lemmas.List.Concat.{length-flat_map}
use Rattle.ics_listing.specs.Leads.{listed}
use Rattle.ics_listing.proofs.merge.Merge.held.Goals as goal

lasts : (last : Option Occurrence) (es : List Entry) → length (listed last es) ≡ length (listed last []) + length es
lasts None es = omega arith
lasts (Some o) es = omega arith

pub loop-lead-preserved : goal.loop-lead-preserved
loop-lead-preserved g c =
    let leads = c.args.self.now.leads.items in
    let k = c.loop-lead.lead-index in
    let lead = c.lead-item.result in
    let items = c.deref-lead-items.ensures.value in
    let within = subst (λ xs. k < length xs) items c.loop-lead-test.true in
    let one = ap (λ x. length (listed x.head (g.F.Holding.holds x.feed))) (c.lead-item.is ∙ ap (λ xs. get_or xs k lead) items) in
    let more = sum_by_more (λ x. length (listed x.head (g.F.Holding.holds x.feed))) leads k lead within in
    omega (arith, more, one, c.saturating_add-held.ensures, c.held.ensures, c.loop-lead.invariant)

pub returns : goal.returns
returns g c =
    let rest = flat_map (λ l. listed l.head (g.F.Holding.holds l.feed)) c.args.self.now.leads.items in
    let sum = length-flat_map (λ l. listed l.head (g.F.Holding.holds l.feed)) c.args.self.now.leads.items in
    let all = lasts c.args.self.now.last rest in
    grind (arith, common_steps, sum, all)
