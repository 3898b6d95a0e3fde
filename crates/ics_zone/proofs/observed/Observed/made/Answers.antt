use Rattle.std.proofs.lemmas.List.Elements.{All-set}
use Rattle.ics_zone.specs.declared.latest.Steady.{Steady}
use Rattle.ics_zone.specs.Inner.ZoneOnsets.{IsSteady}
use Rattle.ics_zone.specs.ZoneOffsets.{zone_offset}
use Rattle.ics_zone.proofs.observed.Observed.made.Goals as goal

pub loop-k-preserved : goal.loop-k-preserved
loop-k-preserved c =
    All-set (λ (s : Steady). IsSteady (zone_offset c.args.self.now.said.items) s.from s.next s.offset) c.loop-k.made c.loop-k.k c.span_near-span.result
    c.span_near-span.ensures c.loop-k.invariant
