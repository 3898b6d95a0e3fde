use Rattle.std.proofs.lemmas.Int.{to_z-of_z}
use Rattle.ics_zone.specs.ZoneOffsets.{zone_offset}
use Rattle.ics_zone.specs.Inner.ZoneBounds.{zone_short}
use Rattle.ics_zone.proofs.observed.Observed.held_moment.Goals as goal

pub returns : goal.returns
returns c =
    let known = rw c.self.view_is at c.self.invariant in
    simp (to_z-of_z, c.ranges.seconds) at (c.moment_in.ensures (zone_offset c.args.self.now.said.items) (zone_short c.args.self.now)
    (rw c.deref.ensures.value known.spans))
