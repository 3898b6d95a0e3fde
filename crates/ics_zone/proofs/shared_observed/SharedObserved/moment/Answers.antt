use Rattle.std.proofs.Common.{rules, sym, SFits, w64}
use Rattle.std.proofs.lemmas.Int.{to_z-of_z}
use Rattle.ics_zone.specs.Moments.{IsMomentOf}
use Rattle.ics_zone.proofs.MomentLemmas.{is_found}
use Rattle.ics_zone.proofs.shared_observed.SharedObserved.moment.Goals as goal

-- the instant is known
pub returns-in-Some : goal.returns-in-Some
returns-in-Some c =
    let known = rw c.self.view_is at c.self.invariant in
    let fits : SFits w64 c.seconds.result = search rules in
    let is : IsMomentOf c.args.self.now.said.items c.seconds.result c.in-Some.moment =
    simp to_z-of_z at (c.in-Some.ensures c.args.self.now.said.items (rw c.deref.ensures.value known)) in
    rw (to_z-of_z w64 c.in-Some.moment (search rules), sym c.seconds.ensures)
    (record { means = is; value = is_found c.args.self.now c.seconds.result _ is })

pub returns-in-None : goal.returns-in-None
returns-in-None c = rw (to_z-of_z w64 c.moment.result (search rules)) (rw c.get.ensures at c.moment.ensures)
