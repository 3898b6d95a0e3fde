use Rattle.std.proofs.Common.{arith}
use Rattle.ics_listing.specs.Leads.{listed, past}
use Rattle.ics_series.specs.AgendaParts.{part_coming}
use Rattle.ics_series.proofs.HoldingLaws.{steps-of-leads}
use Rattle.ics_series.proofs.agenda.Agenda.steps.Goals as goal

pub returns-clause-most : goal.returns-clause-most
returns-clause-most c = λ most bound.
    let merge = c.args.self.now.merge in
    let few = steps-of-leads (λ x. x.feed) (λ x. past c.args.self.now.merge.last (listed x.head (part_coming x.feed))) most merge.leads.items
    c.args.self.now.apart merge.near bound in
    omega (arith, c.steps.ensures, few)
