use Rattle.ics_zone.specs.ZoneOffsets.{zone_offset}
use Rattle.ics_zone.proofs.observed.Observed.add_spans.Goals as goal
use Rattle.ics_zone.proofs.observed.Observed.add_spans.Goals.{then-span+in_ok-add_span, else-span}

-- one span more, unless it is empty
pub loop-k-preserved : goal.loop-k-preserved
loop-k-preserved c = elim c.if-span.branch [
  | then-span+in_ok-add_span w ↦
      rw w.spans-is (w.in_ok-add_span.ensures (zone_offset c.args.self.now.said.items) c.loop-k.invariant c.span_from-span.ensures)
  | else-span w ↦ rw w.spans-is c.loop-k.invariant
]
