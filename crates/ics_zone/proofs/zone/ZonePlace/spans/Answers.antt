use Rattle.std.proofs.Common.{◌≡◌, sym, ◌∙◌}
use Rattle.ics_zone.specs.ZoneSaid.{said_moment, said_offset}
use Rattle.ics_zone.specs.declared.zone.ZoneKind.TheVariants.{ByObservances}
use Rattle.ics_zone.proofs.zone.ZonePlace.spans.Goals as goal

pub returns-in-ByObservances : goal.returns-in-ByObservances
unfolding said_moment said_offset
returns-in-ByObservances c =
    let kind : c.args.self.now ≡ ByObservances c.in-ByObservances.observed = sym c.self.view_is ∙ c.in-ByObservances.is in
    rw kind (rw c.get.ensures at c.spans.ensures)
