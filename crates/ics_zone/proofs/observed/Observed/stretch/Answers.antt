use Rattle.ics_zone.specs.Moments.{zone_moment}
use Rattle.ics_zone.specs.ZoneOffsets.{zone_offset}
use Rattle.ics_zone.specs.Inner.ZoneBounds.{zone_short}
use Rattle.ics_zone.proofs.observed.Observed.stretch.Goals as goal

pub returns-then-len-eq1 : goal.returns-then-len-eq1
returns-then-len-eq1 c = c.of_bounds.ensures (zone_offset c.args.self.now.said.items) (zone_moment c.args.self.now.said.items) c.bounds.ensures

pub returns-in-Some-told_stretch : goal.returns-in-Some-told_stretch
returns-in-Some-told_stretch c =
    let known = rw c.self.view_is at c.self.invariant in
    c.in-Some-told_stretch.ensures (zone_offset c.args.self.now.said.items) (zone_short c.args.self.now) (rw c.deref-2.ensures.value known.spans)
    (rw c.deref.ensures.value known.all_offsets)

pub returns-in-Some-told_stretch-2 : goal.returns-in-Some-told_stretch-2
returns-in-Some-told_stretch-2 c =
    let known = rw c.self.view_is at c.self.invariant in
    c.in-Some-told_stretch-2.ensures (zone_offset c.args.self.now.said.items) (zone_short c.args.self.now) c.made.ensures
    (rw c.deref-3.ensures.value known.all_offsets)

pub returns-in-None : goal.returns-in-None
returns-in-None c = c.none.ensures (zone_offset c.args.self.now.said.items) (zone_moment c.args.self.now.said.items)
