use Rattle.std.proofs.Common.{ℤ, rules}
use Rattle.jiff.specs.Words.{plain_zone}
use Rattle.ics_fields.specs.Locals.{seconds_at}
use Rattle.ics_zone.specs.JiffZones.{IsCompatible}
use Rattle.ics_zone.specs.ZoneSaid.{jiff_said, said_moment}
use Rattle.ics_zone.proofs.JiffLemmas.{means_moment, picked_seconds}
use Rattle.ics_zone.proofs.jiff_zone.JiffZone.picks.Goals as goal

pub returns : goal.returns
returns c =
    let zone = plain_zone c.zone.result in
    let same = c.zone.ensures in
    let said = jiff_said c.args.self.now in
    let local : ℤ = seconds_at c.args.local.day c.args.local.second in
    let parts = picked_seconds zone c.datetime.result local c.datetime.ensures in
    let is : IsCompatible zone local (said_moment said local) =
    record { shown = c.datetime.result; same = c.datetime.ensures; picked = rw (parts, same) (search rules) } in
    means_moment zone said same local _ is
