use Rattle.std.proofs.Common.{rules, sym, subst, w32, w64}
use Rattle.std.proofs.lemmas.Int.{to_z-of_z}
use Rattle.ics_zone.specs.ZoneOffsets.{zone_offset}
use Rattle.ics_zone.specs.Inner.EachSecond.{TellsOffsets}
use Rattle.ics_zone.proofs.observed.Observed.told_offset.Goals as goal

pub returns-in-Some-clause-told : goal.returns-in-Some-clause-told
returns-in-Some-clause-told c =
    let known = rw c.self.view_is at c.self.invariant in
    let told = subst (TellsOffsets (zone_offset c.args.self.now.said.items)) (sym c.each_second-item.is)
    (rw (← c.deref-each_second-items.ensures.value) at known.each_second c.loop-each_second.each_second-index c.each_second-item.result
    c.loop-each_second-test.true) in
    rw (to_z-of_z w32 c.in-Some.offset (search rules))
    (simp (to_z-of_z w64 c.args.moment c.ranges.moment) at (c.in-Some.ensures (zone_offset c.args.self.now.said.items) told))
