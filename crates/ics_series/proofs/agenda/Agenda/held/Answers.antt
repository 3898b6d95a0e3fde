use Rattle.std.proofs.Common.{arith}
use Rattle.ics_series.proofs.HoldingLaws.{held-with-last}
use Rattle.ics_series.proofs.agenda.Agenda.held.Goals as goal

pub returns-clause-most : goal.returns-clause-most
returns-clause-most c =
    let merge = c.args.self.now.merge in
    let most = held-with-last (λ x. x.head) (λ x. x.feed) merge.last merge.leads.items c.args.self.now.apart in
    omega (arith, c.held.ensures, most)
