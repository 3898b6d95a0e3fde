use Rattle.std.proofs.Common.{sym, subst}
use Rattle.ics_zone.specs.ZoneOffsets.{zone_offset}
use Rattle.ics_zone.specs.Inner.EachSecond.{TellsOffsets}
use Rattle.ics_zone.proofs.observed.Observed.told_over.Goals as goal

pub returns-then-reaches : goal.returns-then-reaches
returns-then-reaches c =
    let known = rw c.self.view_is at c.self.invariant in
    subst (TellsOffsets (zone_offset c.args.self.now.said.items)) (sym c.each_second-item.is)
    (rw (← c.deref-each_second-items.ensures.value) at known.each_second c.loop-each_second.each_second-index c.each_second-item.result
    c.loop-each_second-test.true)
