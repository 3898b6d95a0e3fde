use Rattle.std.proofs.Common.{◌<◌, ◌∙◌, ℕ, Option, length, map, IfSome, ap, subst, sym}
use Rattle.ics_zone.specs.ZoneSaid.{zone_said}
use Rattle.ics_starts.specs.Clocks.{clock_at, zone_clock}
use Rattle.ics_starts.proofs.ZoneLemmas.{clock-there}
use Rattle.ics_starts.proofs.zones.FileZones.zone_of.Goals as goal

pub returns : goal.returns
returns c =
    let zones = c.args.self.zones.now in
    let within : c.unwrap.result < length zones = subst (λ (zone : Option ℕ). IfSome zone (λ i. i < length zones)) c.unwrap.ensures c.requires.within in
    clock-there zones c.unwrap.result c.index-self-unwrap.result within ∙ ap (clock_at (map zone_clock (map zone_said zones))) (sym c.unwrap.ensures)
