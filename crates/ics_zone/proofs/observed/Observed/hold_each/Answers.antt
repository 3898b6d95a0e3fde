use Rattle.std.proofs.Common.{arith, length, ◌<◌}
use Rattle.ics_zone.proofs.observed.Observed.hold_each.Goals as goal

pub hold_span-requires : goal.hold_span-requires
hold_span-requires c =
    let inside : c.loop-k.k < length c.args.spans.now = omega (arith, c.loop-k-test.true) in
    rw c.loop-k.invariant (c.requires c.loop-k.k _ inside)
