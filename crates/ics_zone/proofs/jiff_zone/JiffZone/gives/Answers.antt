use Rattle.std.proofs.Common.{refl, sym}
use Rattle.jiff.specs.Words.{plain_zone}
use Rattle.ics_zone.specs.JiffZones.{offset_of}
use Rattle.ics_zone.specs.ZoneSaid.{jiff_said}
use Rattle.ics_zone.proofs.JiffLemmas.{means_offset, is_offset}
use Rattle.ics_zone.proofs.jiff_zone.JiffZone.gives.Goals as goal

pub returns : goal.returns
returns c =
    let zone = plain_zone c.zone.result in
    let same = c.zone.ensures in
    let said = jiff_said c.args.self.now in
    let moment = c.args.moment in
    means_offset zone said same moment _ (sym (is_offset zone said same moment (offset_of zone moment) refl))
