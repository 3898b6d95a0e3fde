use Rattle.std.proofs.Common.{rules, w32}
use Rattle.std.proofs.lemmas.Int.{to_z-of_z}
use Rattle.ics_zone.specs.ZoneOffsets.{zone_offset}
use Rattle.ics_zone.proofs.GapLemmas.{not_greater}
use Rattle.ics_zone.proofs.observed.Observed.told_jump.Goals as goal

pub returns : goal.returns
returns c =
    let known = rw c.self.view_is at c.self.invariant in
    let most =
    not_greater {offset = zone_offset c.args.self.now.said.items} c.deref.result.now c.greatest.ensures (rw c.deref.ensures.value known.all_offsets) in
    simp (to_z-of_z, c.ranges.seconds) at (c.jump.ensures.jump (zone_offset c.args.self.now.said.items) c.in_ok-each_second.ensures
    (rw (← to_z-of_z w32 c.greatest.result (search rules)) at most))
