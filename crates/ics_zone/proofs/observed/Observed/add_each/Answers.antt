use Rattle.std.proofs.Common.{arith, length, ◌<◌}
use Rattle.ics_zone.specs.ZoneOffsets.{zone_offset}
use Rattle.ics_zone.proofs.observed.Observed.add_each.Goals as goal

pub loop-k-preserved : goal.loop-k-preserved
loop-k-preserved c =
    let inside : c.loop-k.k < length c.args.spans.now = omega (arith, c.loop-k-test.true) in
    c.in_ok-add.ensures (zone_offset c.args.self.now.said.items) c.loop-k.invariant (c.requires.spans c.loop-k.k _ inside)

pub returns-in_err-add : goal.returns-in_err-add
returns-in_err-add c =
    let inside : c.loop-k.k < length c.args.spans.now = omega (arith, c.loop-k-test.true) in
    c.in_err-add.ensures (zone_offset c.args.self.now.said.items) c.loop-k.invariant (c.requires.spans c.loop-k.k _ inside)
