use Rattle.std.proofs.Common.{rules, sym, SFits, w64}
use Rattle.std.proofs.lemmas.Int.{to_z-of_z}
use Rattle.ics_zone.specs.Moments.{IsMomentOf}
use Rattle.ics_zone.proofs.MomentLemmas.{is_found}
use Rattle.ics_zone.proofs.observed.Observed.moment.Goals as goal

pub returns : goal.returns
returns c =
    let fits : SFits w64 c.seconds.result = search rules in
    let is : IsMomentOf c.args.self.now.said.items c.seconds.result c.instant_of.result = simp to_z-of_z at c.instant_of.ensures in
    rw (to_z-of_z w64 c.instant_of.result (search rules), sym c.seconds.ensures)
    (record { means = is; value = is_found c.args.self.now c.seconds.result _ is })
