use Rattle.std.proofs.Common.{rules, ◌≡◌, sym, ◌∙◌, w32}
use Rattle.std.proofs.lemmas.Int.{to_z-of_z}
use Rattle.ics_zone.specs.declared.zone.ZoneKind.TheVariants.{ByObservances}
use Rattle.ics_zone.proofs.zone.ZonePlace.offset.Goals as goal

pub returns-in-ByObservances-clause-means : goal.returns-in-ByObservances-clause-means
returns-in-ByObservances-clause-means c =
    let kind : c.args.self.now ≡ ByObservances c.in-ByObservances.observed = sym c.self.view_is ∙ c.in-ByObservances.is in
    rw (kind, to_z-of_z w32 c.offset.result (search rules)) (rw c.get.ensures at (simp (to_z-of_z, c.ranges.moment) at c.offset.ensures.means))
