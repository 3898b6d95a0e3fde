use Rattle.std.proofs.Common.{to_z, of_z, w64}
use Rattle.ics_zone.specs.ZoneOffsets.{zone_offset}
use Rattle.ics_zone.proofs.ZoneSteps.{all_sound}
use Rattle.ics_zone.proofs.observed.Observed.each_second_between.Goals as goal

pub table_of-requires-clause-sound : goal.table_of-requires-clause-sound
table_of-requires-clause-sound c = rw c.deref.ensures.value (all_sound _ _ c.self.invariant.asked)

pub returns-then-count-seconds : goal.returns-then-count-seconds
returns-then-count-seconds c = c.with_room.ensures (zone_offset c.args.self.now.said.items)

pub add_each-requires-clause-told : goal.add_each-requires-clause-told
add_each-requires-clause-told c = c.in_ok-each_second.ensures (zone_offset c.args.self.now.said.items)

pub add_offsets-requires-clause-table : goal.add_offsets-requires-clause-table
add_offsets-requires-clause-table c =
    let known = rw c.self.view_is at c.self.invariant in (
      to_z w64 (of_z w64 c.args.from),
      rw c.deref-4.ensures.value (c.in_ok-table.ensures c.args.self.now.said.items (rw c.deref.ensures.value known.asked)),
    )
