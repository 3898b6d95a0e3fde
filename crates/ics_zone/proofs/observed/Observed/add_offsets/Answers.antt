use Rattle.ics_zone.specs.ZoneOffsets.{zone_offset}
use Rattle.ics_zone.proofs.observed.Observed.add_offsets.Goals as goal

pub loop-k-preserved : goal.loop-k-preserved
loop-k-preserved c = c.in_ok-add.ensures (zone_offset c.args.self.now.said.items) c.loop-k.invariant c.span_from-span.ensures

pub returns-in_err-add : goal.returns-in_err-add
returns-in_err-add c = c.in_err-add.ensures (zone_offset c.args.self.now.said.items) c.loop-k.invariant c.span_from-span.ensures
