use Rattle.ics_zone.specs.ZoneOffsets.{zone_offset}
use Rattle.ics_zone.specs.Inner.ZoneBounds.{zone_short}
use Rattle.ics_zone.proofs.observed.Observed.stretch_each_second.Goals as goal

pub returns : goal.returns
returns c =
    let known = rw c.self.view_is at c.self.invariant in
    c.stretch.ensures (zone_offset c.args.self.now.said.items) (zone_short c.args.self.now) c.in_ok-each_second.ensures
    (rw c.deref.ensures.value known.all_offsets)
